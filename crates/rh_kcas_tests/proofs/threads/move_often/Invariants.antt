use Rattle.std.proofs.Common.{◌≡◌, ◌≤◌}
use Rattle.rh_shared.specs.Rests.{SeatRests}
use Rattle.rh_kcas_tests.proofs.threads.move_often.Given as goal

abbrev pub invariant-loop-tried : goal.invariant-loop-tried
invariant-loop-tried g l = record {
  few : l.moved ≤ l.tried;
  rests : SeatRests l.table l.seat;
  worker : l.seat.side.worker ≡ l.fn.seat.side.worker;
}
