use Rattle.std.proofs.Common.{◌≤◌}
use Rattle.rh_shared.specs.Rests.{SeatRests}
use Rattle.rh_shared.specs.Seats.{IsSame}
use Rattle.rh_kcas_tests.proofs.working.add.Given as goal

abbrev pub invariant-loop-cell : goal.invariant-loop-cell
invariant-loop-cell g l = record {
  rests : SeatRests l.table l.seat;
  same : IsSame l.fn.seat l.seat;
  few : l.count ≤ l.cell;
}
