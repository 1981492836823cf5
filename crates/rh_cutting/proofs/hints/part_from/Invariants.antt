use Rattle.std.proofs.Common.{length, ◌-◌, ◌<◌, ◌+◌}
use Rattle.rh_cutting.proofs.hints.part_from.Given as goal

abbrev pub invariant-loop-part : goal.invariant-loop-part
invariant-loop-part l = l.part + 1 < length l.values

abbrev pub decreases-loop-part : goal.decreases-loop-part
decreases-loop-part l = length l.values - l.part
