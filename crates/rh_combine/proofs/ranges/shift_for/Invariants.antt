use Rattle.std.proofs.Common.{◌≤◌, ◌^◌}
use Rattle.rh_combine.proofs.ranges.shift_for.Given as goal

abbrev pub invariant-loop-shift : goal.invariant-loop-shift
invariant-loop-shift l = 2 ^ l.shift ≤ l.last
