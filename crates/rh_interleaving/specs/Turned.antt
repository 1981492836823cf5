-- What a turn of a worker, and a further round, make of a game.
use Rattle.std.specs.Prelude.{◌≡◌, ℕ, ◌<◌, ◌≤◌, ◌⊎◌, Option, None, List, length, take, slice_index_or}
use Rattle.rh_words.specs.declared.shape.Shape.{Shape}
use Rattle.rh_words.specs.declared.steps.StepKind.{StepKind}
use Rattle.rh_words.specs.Parts.{cell_count}
use Rattle.rh_words.specs.Steps.{StepsTo}
use Rattle.rh_order.specs.Words.{IsWiped}
use Rattle.rh_worker.specs.Worker.{HasNoRoom}
use Rattle.rh_turns.specs.declared.hand.Hand.{Hand}
use Rattle.rh_turns.specs.declared.turning.Turn.{Turn}
use Rattle.rh_turns.specs.declared.turning.Turn.TheVariants.{Did, Finished, Spent, NoSuchWorker}
use Rattle.rh_recorder.specs.Records.{Records}
use Rattle.rh_recorder.specs.declared.recorder.Touched.{Touched}
use Rattle.rh_turns.specs.Hands.{IsFinished, IsSpent, Making, TurnsBy, moment}
use Rattle.rh_turns.specs.Game.{Game, keep}
use Rattle.rh_turns.specs.Laws.{HandBegins, begun, hand, moment_of, turned}

-- This worker made one step of this kind, of which this is so, and nothing else changed.
pub record MakesOneStep (made : Making) (g : Game) (who : ℕ) (k : StepKind) (next : Game) : Type 0 where
  pub worker : who < length g.hands
  pub stepped : Hand
  pub next_is : next ≡ turned g who (moment next.words next.answers stepped)
  pub turns : (other : Hand) → TurnsBy made g.shape g.keys (moment_of g who other) (Did k) (moment next.words next.answers stepped)

-- Where no step is made nothing changes.
abbrev pub TurnedBy : (made : Making) → Game → (who : ℕ) → Turn → Game → Type 0
TurnedBy made g who (Did k) next = MakesOneStep made g who k next
TurnedBy made g who Finished next = (next ≡ g) × (who < length g.hands) × ((other : Hand) → IsFinished (hand g who other))
TurnedBy made g who Spent next = (next ≡ g) × (who < length g.hands) × ((other : Hand) → IsSpent (hand g who other)) × HasNoRoom g.shape (keep g who)
TurnedBy made g who NoSuchWorker next = (next ≡ g) × (length g.hands ≤ who)

abbrev pub Turned : Game → (who : ℕ) → Turn → Game → Type 0
Turned g who turn next = TurnedBy StepsTo g who turn next

-- what was touched in the turn, where this was recorded last
abbrev pub touched_in : Turn → (last : Option Touched) → Option Touched
touched_in (Did k) last = last
touched_in Finished last = None
touched_in Spent last = None
touched_in NoSuchWorker last = None

-- What is told of a turn: of a step what it touched, and else nothing.
abbrev pub Traced : Game → (who : ℕ) → Turn → Option Touched → Game → Type 0
Traced g who (Did k) touched next = MakesOneStep (Records touched) g who k next
Traced g who Finished touched next = Turned g who Finished next × (touched ≡ None)
Traced g who Spent touched next = Turned g who Spent next × (touched ≡ None)
Traced g who NoSuchWorker touched next = Turned g who NoSuchWorker next × (touched ≡ None)

-- it has no step left in this round
abbrev pub IsStopped : Hand → Type 0
IsStopped h = IsFinished h ⊎ IsSpent h

-- each worker begins the round with the cells as they stand
abbrev pub AllBegin : Shape → (words : List ℕ) → List Hand → (next : List Hand) → Type 0
AllBegin z words hands next = (v : ℕ) (other : Hand) → v < length hands → HandBegins z (take (cell_count z) words) (slice_index_or hands v other) (slice_index_or next v other)

-- The rows are unused again, each worker begins the round, and nothing else changed.
pub record BeginsRound (g next : Game) : Type 0 where
  pub next_is : next ≡ begun g next.words next.hands
  pub wiped : IsWiped g.shape g.words next.words
  pub workers : length next.hands ≡ length g.hands
  pub begins : AllBegin g.shape g.words g.hands next.hands
