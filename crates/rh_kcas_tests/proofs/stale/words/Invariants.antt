use Rattle.rh_shared.specs.Seats.{IsHere, view_of}
use Rattle.rh_carrier.specs.Relies.{Knows}
use Rattle.rh_kcas_tests.proofs.stale.words.Given as goal

abbrev pub invariant-loop-cell : goal.invariant-loop-cell
invariant-loop-cell g l = record {
  here : IsHere l.table l.seat;
  knows : Knows l.table.shape (view_of l.seat);
}
