use Rattle.std.proofs.Common.{◌≡◌, vec_len}
use Rattle.rh_combine.proofs.cut.count_in_parts.Given as goal

abbrev pub invariant-loop-key : goal.invariant-loop-key
invariant-loop-key l = vec_len l.counts ≡ l.grid.parts
