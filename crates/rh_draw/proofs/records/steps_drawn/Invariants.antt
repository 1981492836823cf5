use Rattle.std.proofs.Common.{◌≤◌}
use Rattle.rh_draw.proofs.records.steps_drawn.Given as goal

abbrev pub invariant-loop-record : goal.invariant-loop-record
invariant-loop-record l = l.count ≤ l.record-index
