-- The places of a shared list that the workers claimed.
use Rattle.std.specs.Prelude.{ℕ, ◌≤◌, nat_lt, List, map, filter, reverse}
use Rattle.std.specs.List.{range_with_len}
use Rattle.rh_world.specs.World.{In}
use Rattle.rh_words.specs.declared.shape.Shape.{Shape}
use Rattle.rh_words.specs.View.{View}

-- those of one worker, in the order in which it claimed them
abbrev pub claimed : Shape → View → List ℕ
claimed z v = reverse (filter (λ n. nat_lt n z.keys) v.side.claims)

abbrev pub all_claimed : Shape → (ℕ → View) → List (List ℕ)
all_claimed z keep = map (λ v. claimed z (keep v)) (range_with_len 0 z.workers)

-- a Claim of it found the end of the list
abbrev pub FoundEnd : Shape → View → Type 0
FoundEnd z v = (n : ℕ) × In n v.side.claims × (z.keys ≤ n)
