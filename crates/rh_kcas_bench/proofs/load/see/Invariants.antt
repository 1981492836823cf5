use Rattle.rh_shared.specs.Rests.{SeatRests}
use Rattle.rh_shared.specs.Seats.{IsSame}
use Rattle.rh_kcas_bench.proofs.load.see.Given as goal

abbrev pub invariant-loop-entry : goal.invariant-loop-entry
invariant-loop-entry g l = record {
  rests : SeatRests l.table l.seat;
  same : IsSame l.fn.seat l.seat;
}
