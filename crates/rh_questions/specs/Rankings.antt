-- The combinations of lists that occur, the most first.
use Rattle.std.specs.Prelude.{ℕ, zero, suc, ◌+◌, ◌-◌, ◌*◌, ◌^◌, List, [], ◌∷◌}
use Rattle.std.specs.List.Sorted.{IsNonDecreasingBy, IsPermutation}
use Rattle.rh_questions.specs.declared.ranking.Combination.{Combination}

-- the combinations of which some are counted, from this place on
abbrev pub occurring : (place : ℕ) → (counts : List ℕ) → List Combination
occurring place [] = []
occurring place (zero ∷ counts) = occurring (place + 1) counts
occurring place (suc n ∷ counts) = record { lists = place; count = suc n } ∷ occurring (place + 1) counts

-- the less it is, the earlier: by the count, the greatest first, and then by the lists
abbrev pub rank : Combination → ℕ
rank c = (2 ^ 64 - 1 - c.count) * 2 ^ 64 + c.lists

-- each that occurs, in that order
pub record IsRanking (counts : List ℕ) (ranking : List Combination) : Type 0 where
  pub each : IsPermutation (occurring 0 counts) ranking
  pub order : IsNonDecreasingBy rank ranking
