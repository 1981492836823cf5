use Rattle.rh_shared.specs.Rests.{SeatRests}
use Rattle.rh_shared.specs.Seats.{IsSame}
use Rattle.rh_kcas_tests.proofs.working.look_about.Given as goal

abbrev pub invariant-loop-looked : goal.invariant-loop-looked
invariant-loop-looked g l = record {
  rests : SeatRests l.table l.seat;
  same : IsSame l.fn.seat l.seat;
}
