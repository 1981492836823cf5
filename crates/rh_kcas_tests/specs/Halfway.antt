-- A worker that has nothing open, and one whose own descriptor is open; neither owes anything.
use Rattle.std.specs.Prelude.{ℕ, Some, List}
use Rattle.rh_layout.specs.declared.entry.Entry.{Entry}
use Rattle.rh_carrier.specs.Own.{IsClear, KnowsOwn, OwesNothing}
use Rattle.rh_shared.specs.Seats.{IsHere, view_of}
use Rattle.rh_shared.specs.declared.seat.Seat.{Seat}
use Rattle.rh_shared.specs.declared.table.Table.{Table}
use Rattle.rh_carrier.specs.Relies.{Knows}

pub record IsIdle (t : Table) (s : Seat) : Type 0 where
  pub here : IsHere t s
  pub knows : Knows t.shape (view_of s)
  pub clear : IsClear (view_of s)

pub record IsHalfway (t : Table) (s : Seat) (es : List Entry) (number : ℕ) : Type 0 where
  pub here : IsHere t s
  pub knows : Knows t.shape (view_of s)
  pub own : KnowsOwn (view_of s) (Some (record { number = number; entries = es }))
  pub owes : OwesNothing (view_of s)
