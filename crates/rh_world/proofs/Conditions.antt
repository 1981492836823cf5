-- What is known when a descriptor is opened and when a mark is placed.
use Rattle.std.proofs.Common.{◌≡◌, ℕ, ◌<◌, None}
use Rattle.rh_world.specs.World.{IsOpened, Ref, World}
use Rattle.rh_world.specs.World.Cell.{plain}
use Rattle.rh_world.specs.Sides.{Side}
use Rattle.rh_world.specs.Moves.{CanOpen, Entries}

-- d is the next descriptor of its worker, which may open it with these entries
pub record OpensNext (w : World) (side : ℕ → Side) (d : Ref) (p : Entries) : Type 0 where
  pub next : d.number ≡ w.next_number d.worker
  pub can : CanOpen side d.worker p
  pub open can use *

-- x is the next mark of its worker, and the cell of entry e of d holds the old value
pub record PlacesNext (w : World) (side : ℕ → Side) (x d : Ref) (e : ℕ) : Type 0 where
  pub next : x.number ≡ w.marks_used x.worker
  pub settled : (side x.worker).unsettled ≡ None
  pub opened : IsOpened (w.control d)
  pub within : e < w.size d
  pub found : w.cell (w.target d e) ≡ plain (w.old d e)
