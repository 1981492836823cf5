-- What the laws of this crate say: what is so of a game, and that each call of a player keeps it. A worker is named by its
-- number; beyond the last one there is any other.
use Rattle.std.specs.Prelude.{◌≡◌, ℕ, ◌+◌, ◌<◌, ◌≤◌, ◌⊎◌, Some, None, Bool, false, List, ◌++◌, length, map, replicate, set, slice_index, slice_index_or, All}
use Rattle.std.specs.FinSet.{contains}
use Rattle.rh_layout.specs.Key.{IsKey}
use Rattle.rh_layout.specs.Layout.{IsLayout, Layout, keys_of}
use Rattle.rh_ledger.specs.declared.tally.Kind.TheVariants.{Ask}
use Rattle.rh_ledger.specs.Phase.{looked_up, set_after, tally_of}
use Rattle.rh_tagword.specs.Word.{plain_number}
use Rattle.rh_words.specs.declared.shape.Shape.{Shape}
use Rattle.rh_words.specs.Parts.{cell_count}
use Rattle.rh_words.specs.View.{round_view}
use Rattle.rh_rule.specs.Rest.{AllRest}
use Rattle.rh_rule.specs.Wipes.{row_total}
use Rattle.rh_acts.specs.Workers.{LeavesRoom, how_many, sum_of_all}
use Rattle.rh_ledger.specs.Tally.{tally_by}
use Rattle.rh_carrier.specs.Relies.{Relies, Serves, Shows}
use Rattle.rh_worker.specs.Worker.{IsBusy, IsWorker}
use Rattle.rh_order.specs.History.{history}
use Rattle.rh_order.specs.Laws.{MomentSpec}
use Rattle.rh_order.specs.Words.{AreNow, IsWiped, cells_held}
use Rattle.rh_turns.specs.declared.hand.Hand.{Hand}
use Rattle.rh_turns.specs.declared.hand.Share.TheVariants.{Claims}
use Rattle.rh_turns.specs.declared.turning.Turn.{Turn}
use Rattle.rh_turns.specs.Hands.{IsHand, IsIdle, IsNew, IsSpent, Moment, TurnsOn, moment, view_of}
use Rattle.rh_turns.specs.Readable.{IsReadable}
use Rattle.rh_turns.specs.Game.{AllFinished, AllStopped, ArePieces, Game, IsDoneAt, Plays, changed_at, keep, positions_at, run_of, shares_of}

abbrev pub hand : Game → (v : ℕ) (other : Hand) → Hand
hand g v other = slice_index_or g.hands v other

-- ---- a start

-- it has found no end of the list
abbrev pub WillClaim : Hand → Type 0
WillClaim h = (last : ℕ) × (h.share ≡ Claims last false)

-- the pieces follow one another, or all will claim their keys
abbrev pub IsNewlyDealt : Game → Type 0
IsNewlyDealt g = ArePieces 0 (shares_of g.hands) (length g.keys) ⊎ ((g.shape.keys ≡ length g.keys) × All WillClaim g.hands)

pub record GameStarts (g : Game) : Type 0 where
  pub workers : length g.hands ≡ g.shape.workers
  pub opening : IsLayout g.shape.bits g.opening
  pub room : LeavesRoom g.kind g.shape.bits (keys_of g.opening) g.keys
  pub keys : All IsKey g.keys
  pub words : g.words ≡ map plain_number g.opening ++ replicate (row_total g.shape + 1) 0
  pub answers : g.answers ≡ replicate (length g.keys) None
  pub hands : (v : ℕ) (d : Hand) → v < g.shape.workers → IsNew g.kind g.shape (map plain_number g.opening) v (hand g v d)
  pub dealt : IsNewlyDealt g

abbrev pub StartsPlay : Type 0
StartsPlay = (g : Game) → GameStarts g → Plays g

-- ---- a turn

-- Each worker may take its turn.
abbrev pub MayTurn : Type 0
MayTurn = (g : Game) → Plays g → (v : ℕ) (other : Hand) → v < g.shape.workers
    → Relies Shows Serves g.shape g.words (view_of (hand g v other)) × IsHand g.shape g.kind g.keys (hand g v other) × ((hand g v other).done ≤ length g.keys)

-- what a turn of this worker may change
abbrev pub moment_of : Game → (who : ℕ) (other : Hand) → Moment
moment_of g who other = moment g.words g.answers (hand g who other)

-- the game after a turn
abbrev pub turned : Game → (who : ℕ) (next : Moment) → Game
turned g who next = record g { words = next.words; answers = next.answers; hands = set g.hands who next.hand }

abbrev pub TurnsKeep : Type 0
TurnsKeep = (g : Game) → Plays g → (who : ℕ) → who < g.shape.workers → (other : Hand) (turn : Turn) (next : Moment)
    → TurnsOn g.shape g.keys (moment_of g who other) turn next → IsHand g.shape g.kind g.keys next.hand → Plays (turned g who next)

-- ---- a round

-- It begins a round with these cells, which are given as words. One that was spent begins its key again.
pub record HandBegins (z : Shape) (cells : List ℕ) (h next : Hand) : Type 0 where
  pub worker : IsWorker z next.worker
  pub kind_same : next.worker.kind ≡ h.worker.kind
  pub key_same : next.worker.key ≡ h.worker.key
  pub idle : IsIdle h → IsIdle next
  pub again : IsSpent h → IsBusy next.worker.stage
  pub view : view_of next ≡ round_view cells (view_of h)
  pub share : next.share ≡ h.share
  pub done : next.done ≡ h.done
  pub changed : next.changed ≡ h.changed

-- the game in the next round
abbrev pub begun : Game → (then : List ℕ) → List Hand → Game
begun g then hands = record g { words = then; hands = hands }

-- It is begun where no worker has a step left: then all are at rest.
abbrev pub RoundsKeep : Type 0
RoundsKeep = (g : Game) → Plays g → AllStopped g → AllRest g.shape (keep g)
    × ((then cells : List ℕ) → IsWiped g.shape g.words then → ((c : ℕ) → c < cell_count g.shape → slice_index g.words c ≡ slice_index cells c)
    → (hands : List Hand) → length hands ≡ length g.hands → ((v : ℕ) (other : Hand) → v < length g.hands → HandBegins g.shape cells (hand g v other) (slice_index_or hands v other))
    → Plays (begun g then hands))

-- ---- what was made

-- What is counted of the keys that are done, and what stands at their positions, where the keys of each worker have these answers.
-- Where keys are asked for, the answer of each is whether the first set holds it; a key that is not done has none.
pub record OutcomeSpec (g : Game) (own_answers : ℕ → List Bool) : Type 0 where
  pub counts : (v : ℕ) (d : Hand) → v < g.shape.workers → length (positions_at g v) ≡ (hand g v d).done
  pub changed : (v : ℕ) → v < g.shape.workers → changed_at g v ≡ how_many (own_answers v)
  pub stands : (v j : ℕ) → v < g.shape.workers → j < length (own_answers v)
      → slice_index_or g.answers (slice_index (positions_at g v) j) None ≡ Some (slice_index_or (own_answers v) j false)
  pub answers : g.kind ≡ Ask → (p : ℕ) → IsDoneAt g p → slice_index_or g.answers p None ≡ Some (contains (keys_of g.opening) (slice_index g.keys p))
  pub unanswered : (p : ℕ) → (IsDoneAt g p → ⊥) → slice_index_or g.answers p None ≡ None

-- At each moment the words tell what the cells stand for: the layout of the set after the keys of the acts so far, in their
-- order. By these acts each worker has done its keys, with these answers; and the set reflects each key that is done.
abbrev pub MadeSoFar : Type 0
MadeSoFar = (g : Game) → (plays : Plays g) → ((c : ℕ) → c < cell_count g.shape → IsReadable g.shape g.words (keep g) c)
    × MomentSpec (run_of g plays.own_answers) (keys_of g.opening) plays.running.before (history plays.running.world)
    × OutcomeSpec g plays.own_answers

-- Where all keys are done, the cells, the tally and the answers are those of one worker that does the whole list.
pub record EndsWith (g : Game) : Type 0 where
  pub now : AreNow g.shape g.words (keep g) (cells_held g.shape g.words)
  pub layout : Layout (cells_held g.shape g.words) g.shape.bits (set_after g.kind (keys_of g.opening) g.keys)
  pub tally : sum_of_all (λ v. tally_by g.kind (length (positions_at g v)) (changed_at g v)) g.shape.workers ≡ tally_of g.kind (keys_of g.opening) g.keys
  pub answers : g.kind ≡ Ask → (p : ℕ) → p < length g.keys → slice_index_or g.answers p None ≡ Some (slice_index_or (looked_up (keys_of g.opening) g.keys) p false)

abbrev pub MadeAtTheEnd : Type 0
MadeAtTheEnd = (g : Game) → Plays g → AllFinished g → EndsWith g
