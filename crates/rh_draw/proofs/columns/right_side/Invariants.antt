use Rattle.std.proofs.Common.{◌≤◌}
use Rattle.rh_draw.proofs.columns.right_side.Given as goal

abbrev pub invariant-loop-width : goal.invariant-loop-width
invariant-loop-width l = l.left ≤ l.side
