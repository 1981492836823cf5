-- What was read for a key since it was begun.
use Rattle.std.specs.Prelude.{zero, suc, ◌≡◌, ℕ, ◌⊎◌, Option, Some, None, Bool, List, [], ◌∷◌, ◌++◌, length, slice_index}
use Rattle.rh_layout.specs.Round.{cell_ahead}
use Rattle.rh_layout.specs.Order.{home_of}
use Rattle.rh_ledger.specs.declared.tally.Kind.{Kind}
use Rattle.rh_acts.specs.Done.{Kept, kept}
use Rattle.rh_words.specs.declared.shape.Shape.{Shape}
use Rattle.rh_words.specs.Parts.{cell_count}
use Rattle.rh_words.specs.View.{View}
use Rattle.rh_order.specs.History.{kept_of}
use Rattle.rh_order.specs.Advance.{GoesOn, Succeeds}
use Rattle.rh_worker.specs.Deciding.{IsDoneBy}
use Rattle.rh_worker.specs.declared.stage.KeyStage.{KeyStage}
use Rattle.rh_worker.specs.declared.stage.KeyStage.TheVariants as stage
use Rattle.rh_worker.specs.declared.worker.Worker.{Worker}

-- the first n cells from the key's home on, as they were seen, the last one first
abbrev pub seen_back : Shape → (k : ℕ) → (seen : List ℕ) → (n : ℕ) → List Kept
seen_back z k seen zero = []
seen_back z k seen (suc n) = kept (cell_ahead (cell_count z) (home_of z.bits k) n) (slice_index seen n) ∷ seen_back z k seen n

-- These were kept as read before the key was begun. Of those since, the newest are of the first n cells from its home on,
-- in their order, and held what was seen.
-- (What is kept of a worker is not cut where a key begins: its reads in a round are one list.)
pub record HasScanned (z : Shape) (before : List Kept) (v : View) (k : ℕ) (seen : List ℕ) (n : ℕ) : Type 0 where
  pub since : List Kept
  pub reads : kept_of z v ≡ seen_back z k seen n ++ (since ++ before)

-- how many cells from the key's home on are seen, at a stage
abbrev pub seen_at : KeyStage → ℕ
seen_at stage.Idle = 0
seen_at stage.Spent = 0
seen_at (stage.Scan l n) = n
seen_at (stage.Open o p) = 0
seen_at (stage.Swap n p) = 0

-- what the worker sees was read anew
abbrev pub ReadsAnew : Shape → (before : List Kept) → Worker → Type 0
ReadsAnew z before w = HasScanned z before w.side.known.view w.key w.buffer.seen.items (seen_at w.stage)

-- the answer of a key that no act does, by the cells that were read in turn since it was begun
pub record IsAsReadAnew (z : Shape) (before : List Kept) (v : View) (kind : Kind) (k : ℕ) (answer : Bool) : Type 0 where
  pub seen : List ℕ
  pub read : HasScanned z before v k seen (length seen)
  pub tells : IsDoneBy kind z.bits k seen answer

-- where a step does the key, it is done by an own act, or answered so
abbrev pub TellsAnew : Shape → (before : List Kept) → Kind → (k : ℕ) → (v next : View) → (done : Option Bool) → Type 0
TellsAnew z before kind k v next None = Unit {0}
TellsAnew z before kind k v next (Some answer) = (GoesOn v next × IsAsReadAnew z before next kind k answer) ⊎ Succeeds z kind k v next answer
