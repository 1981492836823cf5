use Rattle.std.proofs.Common.{◌≡◌, ℕ, ◌+◌, ◌<◌, ◌≤◌, slice_index, vec_len}
use Rattle.rh_layout.specs.declared.limits.TheConstants.{MAX_KEY}
use Rattle.rh_cutting.proofs.borders.borders_at.Given as goal

abbrev pub invariant-loop-part : goal.invariant-loop-part
invariant-loop-part l = record {
  many : vec_len l.values ≡ l.part;
  first : slice_index l.values.items 0 ≡ 0;
  in_range : l.last ≤ MAX_KEY + 1;
  below : (i : ℕ) → i < l.part → slice_index l.values.items i ≤ l.last;
  rise : (i : ℕ) → i + 1 < l.part → slice_index l.values.items i ≤ slice_index l.values.items (i + 1);
}
