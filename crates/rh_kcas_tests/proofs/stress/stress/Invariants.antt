use Rattle.rh_rule.specs.Seats.{InView}
use Rattle.rh_shared.specs.Crews.{HasAll, IsFresh, views_of}
use Rattle.rh_kcas_tests.proofs.stress.stress.Given as goal

abbrev pub invariant-loop-number : goal.invariant-loop-number
invariant-loop-number g l = record {
  all : HasAll l.table l.seat;
  fresh : InView IsFresh (views_of l.seat);
}
