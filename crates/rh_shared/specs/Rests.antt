-- A seat of one worker at its table: what is known of it, and when it rests.
use Rattle.rh_world.specs.World.{Control, In}
use Rattle.rh_world.specs.Facts.Fact.{decided}
use Rattle.rh_words.specs.View.{OwnDesc, View, own_ref}
use Rattle.rh_carrier.specs.Own.{IsClear}
use Rattle.rh_shared.specs.Seats.{IsHere, IsSame, view_of}
use Rattle.rh_shared.specs.declared.seat.Seat.{Seat}
use Rattle.rh_shared.specs.declared.table.Table.{Table}
use Rattle.rh_carrier.specs.Relies.{Knows}

-- no own descriptor is open, nothing is owed, and of each own descriptor it is noted how it was decided
pub record IsRested (v : View) : Type 0 where
  pub clear : IsClear v
  pub over : (o : OwnDesc) → In o v.opened → (k : Control) × In (decided (own_ref v o.number) k) v.side.facts

-- it is at this table, and what is kept of its worker is so
pub record SeatKnows (t : Table) (s : Seat) : Type 0 where
  pub here : IsHere t s
  pub knows : Knows t.shape (view_of s)

pub record SeatRests (t : Table) (s : Seat) : Type 0 where
  pub here : IsHere t s
  pub knows : Knows t.shape (view_of s)
  pub rested : IsRested (view_of s)

-- ---- after a call

pub record StaysKnown (t : Table) (s then : Seat) : Type 0 where
  pub same : IsSame s then
  pub knows : Knows t.shape (view_of then)

pub record StaysAtRest (t : Table) (s then : Seat) : Type 0 where
  pub same : IsSame s then
  pub rests : SeatRests t then
