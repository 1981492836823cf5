use Rattle.std.proofs.Common.{◌≤◌}
use Rattle.rh_combine.specs.declared.crowds.TheConstants.{SAMPLE}
use Rattle.rh_combine.proofs.crowds.take_some.Given as goal

abbrev pub invariant-loop-key : goal.invariant-loop-key
invariant-loop-key l = l.count ≤ SAMPLE
