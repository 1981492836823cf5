use Rattle.std.proofs.Common.{◌≤◌}
use Rattle.rh_combine.specs.declared.crowds.TheConstants.{SAMPLE}
use Rattle.rh_combine.proofs.crowds.take_sample.Given as goal

abbrev pub invariant-loop-keys : goal.invariant-loop-keys
invariant-loop-keys l = l.count ≤ SAMPLE
