use Rattle.rh_rule.specs.Seats.{InView}
use Rattle.rh_shared.specs.Crews.{HasAll, IsFresh, views_of}
use Rattle.rh_kcas_bench.proofs.measure.Given as goal

abbrev pub invariant-loop : goal.invariant-loop
invariant-loop g l = record {
  all : HasAll l.table l.seat;
  fresh : InView IsFresh (views_of l.seat);
}
