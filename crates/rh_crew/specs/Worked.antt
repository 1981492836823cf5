-- Workers that have worked, and are at rest.
use Rattle.std.specs.Prelude.{◌≡◌}
use Rattle.rh_rule.specs.Seats.{InView}
use Rattle.rh_shared.specs.Crews.{SitsAt, IsQuiet, views_of}
use Rattle.rh_shared.specs.declared.seat.Seat.{Seat}
use Rattle.rh_shared.specs.declared.table.Table.{Table}

-- the seat is that of the same workers, of whom none has anything open or owed
pub record HaveWorked (t : Table) (s then : Seat) : Type 0 where
  pub here : SitsAt t then
  pub first : then.side.worker ≡ s.side.worker
  pub count : then.count ≡ s.count
  pub quiet : InView IsQuiet (views_of then)
