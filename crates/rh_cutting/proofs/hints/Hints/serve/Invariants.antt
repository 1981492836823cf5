use Rattle.std.proofs.Common.{◌≤◌}
use Rattle.rh_cutting.proofs.hints.Hints.serve.Given as goal

abbrev pub invariant-loop-key : goal.invariant-loop-key
invariant-loop-key l = l.right ≤ l.key-index
