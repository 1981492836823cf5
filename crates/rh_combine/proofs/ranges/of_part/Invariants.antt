use Rattle.std.proofs.Common.{◌≡◌, slice_index_or, take}
use Rattle.std.specs.Prelude.{map}
use Rattle.rh_combine.proofs.ranges.of_part.Given as goal

abbrev pub invariant-loop-parts : goal.invariant-loop-parts
invariant-loop-parts l = (d : _) → map (λ k. k.now) l.found.items ≡ map (λ c. (slice_index_or c.items l.part d).items) (take l.parts-index l.cuts)
