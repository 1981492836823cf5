use Rattle.std.proofs.Common.{◌≡◌, ℕ, ◌<◌, [], slice_index_or, vec_len}
use Rattle.rh_combine.proofs.cut.empty_parts.Given as goal

abbrev pub invariant-loop-many : goal.invariant-loop-many
invariant-loop-many l = record {
  len : vec_len l.parts ≡ l.many-index;
  parts : (p : ℕ) (d : _) → p < l.many-index → (slice_index_or l.parts.items p d).items ≡ [];
}
