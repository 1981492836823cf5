-- The moves of a run, each of any worker, one after the other.
use Rattle.std.specs.Prelude.{◌≡◌, ℕ, ◌<◌, Option, Bool, List, [], ◌∷◌, slice_index}
use Rattle.std.specs.List.{Contains}
use Rattle.rh_layout.specs.Layout.{Keys, Layout}
use Rattle.rh_ledger.specs.declared.tally.Kind.{Kind}
use Rattle.rh_ledger.specs.Phase.{set_after}
use Rattle.rh_words.specs.declared.shape.Shape.{Shape}
use Rattle.rh_words.specs.Parts.{cell_count}
use Rattle.rh_words.specs.View.{View, round_view}
use Rattle.rh_words.specs.Steps.{Allowed, Step, StepsTo}
use Rattle.rh_rule.specs.Rest.{AllRest}
use Rattle.rh_acts.specs.Workers.{LeavesRoom}
use Rattle.rh_order.specs.Advance.{Advances}
use Rattle.rh_order.specs.Laws.{Reflects, also_done_by, started, stepped}
use Rattle.rh_order.specs.Run.{Run}
use Rattle.rh_order.specs.Words.{AreNow, IsWiped}

-- What is next in a run, and the words that it leaves.
pub data RunMove : Type 0 where
  -- a step of a worker that is at key k, after which the key may be done: what it found, and what is kept of the worker
  steps : (who k : ℕ) → Step → (word : ℕ) → (then : List ℕ) → (next : View) → (answer : Option Bool) → RunMove
  -- a Claim of a worker
  claims : (who word : ℕ) → (then : List ℕ) → (next : View) → RunMove
  -- a further round, which begins with these cells
  round : (then cells : List ℕ) → RunMove

-- the run after it
abbrev pub after : Run → RunMove → Run
after r (RunMove.steps who k s word then next answer) = also_done_by (stepped r then who next) who k answer
after r (RunMove.claims who word then next) = stepped r then who next
after r (RunMove.round then cells) = record r { words = then; keep = λ v. round_view cells (r.keep v) }

-- A worker of the table makes a step that is allowed to it, for its own descriptor or for another's, at one of its keys.
pub record IsRunStep (r : Run) (who k : ℕ) (s : Step) (word : ℕ) (then : List ℕ) (next : View) (answer : Option Bool) : Type 0 where
  pub within : who < r.shape.workers
  pub allowed : Allowed r.shape (r.keep who) s
  pub made : StepsTo r.shape s r.words (r.keep who) word then next
  pub own_key : Contains (r.keys who) k
  pub advances : Advances r.shape r.kind k (r.keep who) next answer

-- A worker of the table claims the next index.
pub record IsClaim (r : Run) (who word : ℕ) (then : List ℕ) (next : View) : Type 0 where
  pub within : who < r.shape.workers
  pub allowed : Allowed r.shape (r.keep who) Step.claims
  pub made : StepsTo r.shape Step.claims r.words (r.keep who) word then next

-- All are at rest, the cells are as they stand, and the rows are wiped.
pub record IsRound (r : Run) (then cells : List ℕ) : Type 0 where
  pub rest : AllRest r.shape r.keep
  pub cells_are : (c : ℕ) → c < cell_count r.shape → slice_index r.words c ≡ slice_index cells c
  pub wiped : IsWiped r.shape r.words then

-- it may come next
abbrev pub MayCome : Run → RunMove → Type 0
MayCome r (RunMove.steps who k s word then next answer) = IsRunStep r who k s word then next answer
MayCome r (RunMove.claims who word then next) = IsClaim r who word then next
MayCome r (RunMove.round then cells) = IsRound r then cells

-- the run after all of them
abbrev pub after_all : Run → List RunMove → Run
after_all r [] = r
after_all r (m ∷ moves) = after_all (after r m) moves

-- each may come next where it comes
abbrev pub AreNext : Run → List RunMove → Type 0
AreNext r [] = Unit {0}
AreNext r (m ∷ moves) = MayCome r m × AreNext (after r m) moves

-- ---- what they keep

-- The cells stand for the layout of the set of the start, changed by some keys that the workers were given: so a key that was held
-- is there unless it was removed, and none is there that was neither held nor inserted. And that set reflects each key that a
-- worker has done.
pub record KeepsKeys (S : Keys) (keys : ℕ → List ℕ) (r : Run) : Type 0 where
  pub cells : List ℕ
  pub stand : AreNow r.shape r.words r.keep cells
  pub so_far : List ℕ
  pub among : (k : ℕ) → Contains so_far k → (v : ℕ) × (v < r.shape.workers) × Contains (keys v) k
  pub layout : Layout cells r.shape.bits (set_after r.kind S so_far)
  pub reflects : (v k : ℕ) → v < r.shape.workers → Contains (r.done v) k → Reflects r.kind (set_after r.kind S so_far) k

-- Whatever moves come after the start of a phase that has room for its keys, no key is lost, of those that were held or are done.
abbrev pub NoKeyIsLost : Type 0
NoKeyIsLost = (kind : Kind) (z : Shape) (cells : List ℕ) (S : Keys) (keys : ℕ → List ℕ) (all : List ℕ) (moves : List RunMove)
    → Layout cells z.bits S
    → ((v k : ℕ) → v < z.workers → Contains (keys v) k → Contains all k) → LeavesRoom kind z.bits S all
    → AreNext (started kind z cells keys) moves → KeepsKeys S keys (after_all (started kind z cells keys) moves)
