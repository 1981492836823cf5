use Rattle.std.proofs.Common.{◌≡◌}
use Rattle.rh_shared.specs.Rests.{SeatRests}
use Rattle.rh_example.proofs.swaps.move_often.Given as goal

abbrev pub invariant-loop : goal.invariant-loop
invariant-loop g l = record {
  rests : SeatRests l.table l.seat;
  worker : l.seat.side.worker ≡ l.fn.seat.side.worker;
}
