-- What the orders of a schedule do to a game, and what they print.
use Rattle.std.specs.Prelude.{zero, suc, ◌≡◌, ◌≢◌, ℕ, ◌+◌, ◌/◌, ◌%◌, ◌<◌, ◌⊎◌, Bool, true, false, ◌||◌, MatchBool, List, [], ◌∷◌, ◌++◌, length, slice_index, Option, Some, None}
use Rattle.rh_words.specs.declared.steps.StepKind.{StepKind}
use Rattle.rh_words.specs.Parts.{cell_count}
use Rattle.rh_tagword.specs.declared.word.Word.{Word}
use Rattle.rh_tagword.specs.Word.{word_in}
use Rattle.rh_turns.specs.declared.turning.Turn.{Turn}
use Rattle.rh_turns.specs.declared.turning.Turn.TheVariants as turn
use Rattle.rh_turns.specs.Game.{AllFinished, AllStopped, Game}
use Rattle.rh_interleaving.specs.Turned.{BeginsRound, Traced}
use Rattle.rh_play_text.specs.declared.limits.TheConstants.{MAX_TURNS}
use Rattle.rh_play_text.specs.declared.schedule.Order.{Order}
use Rattle.rh_play_text.specs.declared.schedule.Order.TheVariants as order
use Rattle.rh_play_text.specs.declared.endings.Last.{Last}
use Rattle.rh_play_text.specs.declared.endings.Last.TheVariants as last
use Rattle.rh_play_text.specs.declared.endings.Rest.{Rest}
use Rattle.rh_play_text.specs.declared.endings.Rest.TheVariants as rest
use Rattle.rh_play_text.specs.Lines.{raw_line, rest_line, round_line, turn_line, until_line}
use Rattle.rh_recorder.specs.declared.recorder.Touched.{Touched}
use Rattle.rh_play_run.specs.Pieces.{LogEntry, round_pieces, turn_pieces}

-- ---- turns of one worker

-- what a turn came to, as lines tell it
abbrev pub last_of : Turn → Last
last_of (turn.Did kind) = last.Did kind
last_of turn.Finished = last.Finished
last_of turn.Spent = last.Spent
last_of turn.NoSuchWorker = last.NoWorker

-- One turn, and what is told of it.
pub record ATurn (g : Game) (who : ℕ) (made : Turn) (pieces : List LogEntry) (next : Game) : Type 0 where
  pub touched : Option Touched
  pub traced : Traced g who made touched next
  pub pieces_are : pieces ≡ turn_pieces who made touched

-- So many turns, of which the last came to this, and their steps. Before them it was as told before.
unfoldable pub TurnsOf : (who turns : ℕ) → Game → (before : Last) → (told : Last) → (pieces : List LogEntry) → Game → Type 0
TurnsOf who zero g before told pieces next = (told ≡ before) × (pieces ≡ []) × (next ≡ g)
TurnsOf who (suc turns) g before told pieces next =
    (made : Turn) × (first : List LogEntry) × (others : List LogEntry) × (mid : Game) × ATurn g who made first mid × TurnsOf who turns mid (last_of made) told others next
    × (pieces ≡ first ++ others)

-- The turn is the last one where a step of this kind is wanted: it made one, or it made no step.
abbrev pub Reaches : StepKind → Turn → Type 0
Reaches kind (turn.Did made) = made ≡ kind
Reaches kind turn.Finished = Unit {0}
Reaches kind turn.Spent = Unit {0}
Reaches kind turn.NoSuchWorker = Unit {0}

-- It made a step of another kind.
abbrev pub Misses : StepKind → Turn → Type 0
Misses kind (turn.Did made) = made ≢ kind
Misses kind turn.Finished = ⊥
Misses kind turn.Spent = ⊥
Misses kind turn.NoSuchWorker = ⊥

-- Turns up to the first that makes a step of this kind or none, so many at most. It is told what that turn came to.
unfoldable pub TurnsUntil : (limit who : ℕ) → StepKind → Game → (told : Last) → (pieces : List LogEntry) → Game → Type 0
TurnsUntil zero who kind g told pieces next = (told ≡ last.Limit) × (pieces ≡ []) × (next ≡ g)
TurnsUntil (suc limit) who kind g told pieces next =
    (made : Turn) × (first : List LogEntry) × (mid : Game) × ATurn g who made first mid
    × ((Reaches kind made × (told ≡ last_of made) × (pieces ≡ first) × (next ≡ mid))
    ⊎ (Misses kind made × (others : List LogEntry) × TurnsUntil limit who kind mid told others next × (pieces ≡ first ++ others)))

-- ---- turns of all workers

abbrev pub makes_step : Turn → Bool
makes_step (turn.Did kind) = true
makes_step turn.Finished = false
makes_step turn.Spent = false
makes_step turn.NoSuchWorker = false

-- One turn each of so many workers in order, from this one on: whether some turn made a step, or one before them.
unfoldable pub TurnOfEach : (count from : ℕ) → Game → (before : Bool) → (some : Bool) → (pieces : List LogEntry) → Game → Type 0
TurnOfEach zero from g before some pieces next = (some ≡ before) × (pieces ≡ []) × (next ≡ g)
TurnOfEach (suc count) from g before some pieces next =
    (made : Turn) × (first : List LogEntry) × (others : List LogEntry) × (mid : Game) × ATurn g from made first mid
    × TurnOfEach count (from + 1) mid (before || makes_step made) some others next × (pieces ≡ first ++ others)

-- Passes over all workers, up to the first in which no turn makes a step: so many at most, and where that is not enough so
-- many turns of one more.
unfoldable pub PassesToRest : (passes more : ℕ) → Game → (pieces : List LogEntry) → Game → Type 0
PassesToRest zero more g pieces next = (some : Bool) × TurnOfEach more 0 g false some pieces next
PassesToRest (suc passes) more g pieces next =
    (some : Bool) × (first : List LogEntry) × (others : List LogEntry) × (mid : Game) × TurnOfEach (length g.hands) 0 g false some first mid
    × MatchBool some (PassesToRest passes more mid others next) ((others ≡ []) × (next ≡ mid)) × (pieces ≡ first ++ others)

-- no more turns than a line may ask for
abbrev pub RestsWithin : (turns : ℕ) → Game → (pieces : List LogEntry) → Game → Type 0
RestsWithin turns g pieces next = PassesToRest (turns / length g.hands) (turns % length g.hands) g pieces next

-- how the workers stand: all are finished, or none has a step left and some are spent, or one has a step left
abbrev pub StandsAs : Rest → Game → Type 0
StandsAs rest.Finished g = AllFinished g
StandsAs rest.Spent g = AllStopped g × ¬ AllFinished g
StandsAs rest.Limit g = ¬ AllStopped g

-- the next round, where no worker has a step left
abbrev pub Rounds : Game → (began : Bool) → Game → Type 0
Rounds g true next = AllStopped g × BeginsRound g next
Rounds g false next = ¬ AllStopped g × (next ≡ g)

-- ---- what is shown

-- a word that is none has no line
abbrev pub word_line : (cell : ℕ) → Option Word → List ℕ
word_line cell None = []
word_line cell (Some word) = raw_line cell word

-- the lines of the words of so many cells, from the first on
unfoldable pub words_shown : (words : List ℕ) → (count : ℕ) → List ℕ
words_shown words zero = []
words_shown words (suc cell) = words_shown words cell ++ word_line cell (word_in (slice_index words cell))

abbrev pub shown : Game → List ℕ
shown g = words_shown g.words (cell_count g.shape)

-- ---- a schedule

-- What an order does to a game, and what is told of it: its steps, and then its lines.
unfoldable pub CarriesOut : Order → Game → (pieces : List LogEntry) → Game → Type 0
CarriesOut (order.Turn worker turns) g pieces next =
    (told : Last) × (steps : List LogEntry) × TurnsOf worker turns g last.Limit told steps next × (pieces ≡ steps ++ LogEntry.lines (turn_line worker turns told) ∷ [])
CarriesOut (order.Until worker step) g pieces next =
    (told : Last) × (steps : List LogEntry) × TurnsUntil MAX_TURNS worker step g told steps next
    × (pieces ≡ steps ++ LogEntry.lines (until_line worker step told) ∷ [])
CarriesOut order.Rest g pieces next =
    (told : Rest) × (steps : List LogEntry) × RestsWithin MAX_TURNS g steps next × StandsAs told next × (pieces ≡ steps ++ LogEntry.lines (rest_line told) ∷ [])
CarriesOut order.Round g pieces next = (began : Bool) × Rounds g began next × (pieces ≡ round_pieces began ++ LogEntry.lines (round_line began) ∷ [])
CarriesOut order.Show g pieces next = (next ≡ g) × (pieces ≡ LogEntry.lines (shown g) ∷ [])

-- The orders are carried out one after the other, and what is told of them follows one another.
unfoldable pub CarriesOutAll : List Order → Game → (pieces : List LogEntry) → Game → Type 0
CarriesOutAll [] g pieces next = (pieces ≡ []) × (next ≡ g)
CarriesOutAll (order ∷ orders) g pieces next =
    (first : List LogEntry) × (others : List LogEntry) × (mid : Game) × CarriesOut order g first mid × CarriesOutAll orders mid others next × (pieces ≡ first ++ others)

-- ---- its size

-- how many workers and how many cells a game has
abbrev pub HasSize : (workers cells : ℕ) → Game → Type 0
HasSize workers cells g = (length g.hands ≡ workers) × (cell_count g.shape ≡ cells) × (0 < workers)
