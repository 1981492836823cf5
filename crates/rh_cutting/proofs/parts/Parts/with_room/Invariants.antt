use Rattle.std.proofs.Common.{◌≡◌, ℕ, [], get_or, length}
use Rattle.std.specs.Prelude.{map}
use Rattle.rh_cutting.proofs.parts.Parts.with_room.Given as goal

abbrev pub invariant-loop-many : goal.invariant-loop-many
invariant-loop-many l = record {
  len : length l.parts.items ≡ l.many-index;
  empty : (p : ℕ) → get_or (map (λ v. v.items) l.parts.items) p [] ≡ [];
}
