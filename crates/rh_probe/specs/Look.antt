-- What consecutive cells, the first at a key's home, tell of the key.
use Rattle.std.specs.Prelude.{ℕ, ◌^◌, ◌<◌, ◌≡◌, List, length, slice_index}
use Rattle.rh_layout.specs.Round.{cell_ahead}
use Rattle.rh_layout.specs.Key.{cell_of}
use Rattle.rh_layout.specs.Layout.{IsBeatenAt}
use Rattle.rh_layout.specs.Order.{home_of, dist_of, Beats}
use Rattle.rh_probe.specs.declared.answer.Look.{Look}
use Rattle.rh_probe.specs.declared.answer.Look.TheVariants.{Here, Goes, More}

-- offset p holds a key that beats k there
abbrev pub IsPassedAt : (b k : ℕ) (seen : List ℕ) (p : ℕ) → Type 0
IsPassedAt b k seen p = (j : ℕ) × (slice_index seen p ≡ cell_of j) × Beats b (cell_ahead (2 ^ b) (home_of b k) p) j k

-- each offset before i does
abbrev pub AllPassed : (b k : ℕ) (seen : List ℕ) (i : ℕ) → Type 0
AllPassed b k seen i = (p : ℕ) → p < i → IsPassedAt b k seen p

-- The key stands at the first offset that does not, or that offset does not hold it, or there is no such offset.
-- (Celis 1986) Finds 3 22 [2, 10, 18, 0] (Goes 3): 1, 9 and 17 are each as far from home as 22 would be there, and smaller
abbrev pub Finds : (b k : ℕ) (seen : List ℕ) → Look → Type 0
Finds b k seen (Here i) = (i < length seen) × AllPassed b k seen i × (slice_index seen i ≡ cell_of k)
Finds b k seen (Goes i) = (i < length seen) × AllPassed b k seen i × (slice_index seen i ≡ cell_of k → ⊥) × (IsPassedAt b k seen i → ⊥)
Finds b k seen More = AllPassed b k seen (length seen)

-- the same of a whole table: the first cell that does not hold a key that beats k is i steps after the home of k
pub record IsProbeLength (b : ℕ) (cells : List ℕ) (k i : ℕ) : Type 0 where
  pub in_table : i < 2 ^ b
  pub passed : (c : ℕ) → c < 2 ^ b → dist_of b c k < i → IsBeatenAt cells b c k
  pub decides : IsBeatenAt cells b (cell_ahead (2 ^ b) (home_of b k) i) k → ⊥
