use Rattle.rh_threads.specs.Crew.{WorksOn}
use Rattle.rh_threads.proofs.doing.do_keys.Given as goal

abbrev pub invariant-loop : goal.invariant-loop
invariant-loop g l = record {
  works : WorksOn l.table l.keys l.fn.hand l.fn.seat l.hand l.seat;
}
