use Rattle.std.proofs.Common.{◌≡◌, length}
use Rattle.rh_cutting.proofs.cut.count_in_parts.Given as goal

abbrev pub invariant-loop-number : goal.invariant-loop-number
invariant-loop-number l = length l.counts.items ≡ l.parts
