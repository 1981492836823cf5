-- Segments: what consecutive cells of a table hold, from some cell on.
use Rattle.std.specs.Prelude.{ℕ, ◌^◌, ◌<◌, ◌≤◌, ◌≡◌, List, length, slice_index}
use Rattle.rh_layout.specs.Round.{steps_round, cell_ahead}
use Rattle.rh_layout.specs.Key.{cell_of}
use Rattle.rh_layout.specs.Order.{home_of}

-- `seen` is what the cells from cell h on hold, in a circle of n
pub record IsFront (n h : ℕ) (cells seen : List ℕ) : Type 0 where
  pub room : length seen ≤ n
  pub shows : (p : ℕ) → p < length seen → slice_index seen p ≡ slice_index cells (cell_ahead n h p)

-- j is the first offset from i on that is empty
pub record IsFirstFree (seen : List ℕ) (i j : ℕ) : Type 0 where
  pub from : i ≤ j
  pub within : j < length seen
  pub free : slice_index seen j ≡ 0
  pub full : (p : ℕ) → i ≤ p → p < j → 0 < slice_index seen p

-- what cell c holds is a key that is not at its home
abbrev pub IsAway : (b c value : ℕ) → Type 0
IsAway b c value = (k : ℕ) × (value ≡ cell_of k) × (home_of b k ≡ c → ⊥)

-- j is the first offset after i that is empty or holds a key at its home, where h is the cell of offset 0
-- (backward shift, as is common with linear probing)
pub record IsFirstStop (b h : ℕ) (seen : List ℕ) (i j : ℕ) : Type 0 where
  pub from : i < j
  pub within : j < length seen
  pub stop : IsAway b (cell_ahead (2 ^ b) h j) (slice_index seen j) → ⊥
  pub between : (p : ℕ) → i < p → p < j → IsAway b (cell_ahead (2 ^ b) h p) (slice_index seen p)

-- `new` is `old` with what the cells from cell h on hold replaced by `news`
pub record ReplacesFront (n h : ℕ) (old new news : List ℕ) : Type 0 where
  pub size : length new ≡ length old
  pub written : IsFront n h new news
  pub elsewhere : (c : ℕ) → c < n → length news ≤ steps_round n h c → slice_index new c ≡ slice_index old c
