use Rattle.std.proofs.Common.{◌≡◌, ℕ, ◌<◌, slice_index_or, take, vec_len}
use Rattle.std.specs.Prelude.{All, map}
use Rattle.rh_combine.specs.Grid.{in_part}
use Rattle.rh_combine.proofs.ranges.cut_all.Given as goal

abbrev pub invariant-loop-keys : goal.invariant-loop-keys
invariant-loop-keys l = record {
  long : All (λ c. vec_len c ≡ l.grid.parts) l.cuts.items;
  parts : (p : ℕ) (d : _) → p < l.grid.parts → map (λ c. (slice_index_or c.items p d).items) l.cuts.items ≡ map (in_part l.grid p) (map (λ k. k.now) (take l.keys-index l.lists));
}
