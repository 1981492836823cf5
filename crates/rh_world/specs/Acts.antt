-- The second part of the rule: the descriptors that succeeded, in one order, and the cells that they change. An act
-- changes the logical cells of all its entries at once (Harris, Fraser and Pratt 2002); the list is this project's.
use Rattle.std.specs.Prelude.{zero, suc, ◌≡◌, ℕ, ◌<◌, ◌==◌, Bool, true, false, cond, List, [], ◌∷◌, filter}
use Rattle.rh_world.specs.World.{Ref, Control, World, In}
use Rattle.rh_world.specs.World.Cell.{desc}
use Rattle.rh_world.specs.World.Control.{unused, undecided, succeeded, withdrawn, failed}
use Rattle.rh_world.specs.Logical.{IsLogical, Takes, changed_by}
use Rattle.rh_world.specs.Facts.{Fact, HoldsIn, part_of}
use Rattle.rh_world.specs.Facts.RulePart.{of_acts}
use Rattle.rh_world.specs.Sides.{Side}
use Rattle.rh_world.specs.Rows.{ByOwner}

-- an entry of d for this cell is not released yet by its owner
pub record IsUnreleased (w : World) (side : ℕ → Side) (d : Ref) (c : ℕ) : Type 0 where
  pub entry : ℕ
  pub within : entry < w.size d
  pub here : w.target d entry ≡ c
  pub owed : ByOwner side d entry

pub record Acts (w : World) (side : ℕ → Side) : Type 0 where
  -- a descriptor that succeeded stands in a cell only until its owner has released it there
  pub standing : (c : ℕ) (d : Ref) → w.cell c ≡ desc d → w.control d ≡ succeeded → IsUnreleased w side d c
  -- the acts are the descriptors that succeeded, those of one worker in the order of their numbers
  pub made : (d : Ref) → w.control d ≡ succeeded → (i : ℕ) × (i < w.act_count) × (w.act i ≡ d)
  pub succeeded : (i : ℕ) → i < w.act_count → w.control (w.act i) ≡ succeeded
  pub ordered : (i j : ℕ) → i < j → j < w.act_count → (w.act i).worker ≡ (w.act j).worker → (w.act i).number < (w.act j).number
  -- each took the logical cells from one state to the next, and the last is what the cells stand for now
  pub takes : (i : ℕ) → i < w.act_count → Takes w (w.act i) (w.logical i) (w.logical (suc i))
  pub now : (c : ℕ) → IsLogical w c (w.logical w.act_count c)
  pub facts : (v : ℕ) (n : Fact) → In n (side v).facts → part_of n ≡ of_acts → HoldsIn w n

-- the opening cells, changed by the first n acts one by one
abbrev pub cells_after : World → (n : ℕ) → (c : ℕ) → ℕ
cells_after w zero = w.logical 0
cells_after w (suc n) = changed_by w (w.act n) (w.size (w.act n)) (cells_after w n)

-- the cells f hold the old values of d
abbrev pub MeetsOlds : World → Ref → (f : ℕ → ℕ) → Type 0
MeetsOlds w d f = (e : ℕ) → e < w.size d → f (w.target d e) ≡ w.old d e

-- the numbers of the descriptors of worker v among the first n acts, the newest first
abbrev pub own_acts : World → (v n : ℕ) → List ℕ
own_acts w v zero = []
own_acts w v (suc n) = cond ((w.act n).worker == v) ((w.act n).number ∷ own_acts w v n) (own_acts w v n)

abbrev pub is_success : Control → Bool
is_success unused = false
is_success undecided = false
is_success succeeded = true
is_success withdrawn = false
is_success (failed e by) = false

-- of these numbers of descriptors of worker v those that succeeded
abbrev pub successes_of : World → (v : ℕ) → List ℕ → List ℕ
successes_of w v numbers = filter (λ n. is_success (w.control (record { worker = v; number = n }))) numbers
