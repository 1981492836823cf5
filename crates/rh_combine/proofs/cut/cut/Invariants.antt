use Rattle.std.proofs.Common.{◌≡◌, ℕ, ◌<◌, slice_index_or, take, vec_len}
use Rattle.rh_combine.specs.Grid.{in_part}
use Rattle.rh_combine.proofs.cut.cut.Given as goal

abbrev pub invariant-loop-key : goal.invariant-loop-key
invariant-loop-key l = record {
  len : vec_len l.parts ≡ l.grid.parts;
  parts : (p : ℕ) (d : _) → p < l.grid.parts → (slice_index_or l.parts.items p d).items ≡ in_part l.grid p (take l.key-index l.keys);
}
