use Rattle.rh_shared.specs.Rests.{SeatRests}
use Rattle.rh_shared.specs.Seats.{IsSame}
use Rattle.rh_kcas_tests.proofs.working.try_swaps.Given as goal

abbrev pub invariant-loop-tried : goal.invariant-loop-tried
invariant-loop-tried g l = record {
  rests : SeatRests l.table l.seat;
  same : IsSame l.fn.seat l.seat;
}
