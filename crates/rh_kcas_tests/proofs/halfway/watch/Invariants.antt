use Rattle.rh_kcas_tests.specs.Halfway.{IsHalfway}
use Rattle.rh_kcas_tests.proofs.halfway.watch.Given as goal

abbrev pub invariant-loop-made : goal.invariant-loop-made
invariant-loop-made l = IsHalfway l.table l.seat l.entries l.number
