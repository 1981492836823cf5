-- Workers that make single calls with marks.
use Rattle.std.specs.Prelude.{◌≡◌, ℕ, None}
use Rattle.rh_world.specs.World.{In}
use Rattle.rh_world.specs.Facts.Fact.{found}
use Rattle.rh_words.specs.declared.reference.Ref.{Ref}
use Rattle.rh_words.specs.Words.{ref_of}
use Rattle.rh_shared.specs.Seats.{IsHere, view_of}
use Rattle.rh_rdcss.specs.Placing.{HasEntry, IsMine, MayPlace}
use Rattle.rh_shared.specs.declared.seat.Seat.{Seat}
use Rattle.rh_shared.specs.declared.table.Table.{Table}
use Rattle.rh_carrier.specs.Relies.{Knows}

-- no own mark is unsettled
pub record IsSettled (t : Table) (s : Seat) : Type 0 where
  pub here : IsHere t s
  pub knows : Knows t.shape (view_of s)
  pub settled : (view_of s).side.unsettled ≡ None

-- a mark may be placed for d
pub record MayTry (t : Table) (s : Seat) (d : Ref) : Type 0 where
  pub here : IsHere t s
  pub knows : Knows t.shape (view_of s)
  pub may : MayPlace t.shape (view_of s) d

-- a mark may be placed for its entry
pub record MayMark (t : Table) (s : Seat) (d : Ref) (e : ℕ) : Type 0 where
  pub here : IsHere t s
  pub knows : Knows t.shape (view_of s)
  pub entry : HasEntry t.shape (view_of s) d e

-- its mark stands for this entry
pub record HasPlaced (t : Table) (s : Seat) (d : Ref) (e : ℕ) : Type 0 where
  pub here : IsHere t s
  pub knows : Knows t.shape (view_of s)
  pub mine : IsMine d e s

-- a mark of another worker was found in the cell
pub record HasFound (t : Table) (s : Seat) (mark : Ref) (c : ℕ) : Type 0 where
  pub here : IsHere t s
  pub knows : Knows t.shape (view_of s)
  pub here_is : In (found (ref_of mark) c) (view_of s).side.facts
  pub foreign : mark.worker ≡ (view_of s).worker → ⊥
