-- A value taken out of a circle of n cells, where `old` and `new` give what each cell holds, and `home` the home of the
-- key in a cell that holds this.
use Rattle.std.specs.Prelude.{ℕ, ◌+◌, ◌<◌, ◌≤◌, ◌≡◌}
use Rattle.rh_layout.specs.Round.{steps_round, IsNext}

-- `new` is `old` without what stands i steps after h; what stands after it, to before j steps after h, has moved back by one
pub record IsTakenOut (n h i j : ℕ) (old new : ℕ → ℕ) : Type 0 where
  pub before : (c : ℕ) → c < n → steps_round n h c < i → new c ≡ old c
  pub moved : (c d : ℕ) → IsNext n c d → i ≤ steps_round n h c → steps_round n h c + 1 < j → new c ≡ old d
  pub cleared : (c : ℕ) → c < n → steps_round n h c + 1 ≡ j → new c ≡ 0
  pub after : (c : ℕ) → c < n → j ≤ steps_round n h c → new c ≡ old c

-- the same on the way, after the cell t steps after h was read
pub record IsPartOut (n : ℕ) (home : ℕ → ℕ) (h i t : ℕ) (old new : ℕ → ℕ) : Type 0 where
  pub begun : i ≤ t
  pub before : (c : ℕ) → c < n → steps_round n h c < i → new c ≡ old c
  pub moved : (c d : ℕ) → IsNext n c d → i ≤ steps_round n h c → steps_round n h c < t → new c ≡ old d
  pub after : (c : ℕ) → c < n → t ≤ steps_round n h c → new c ≡ old c
  pub away : (c : ℕ) → c < n → i < steps_round n h c → steps_round n h c ≤ t → home (old c) ≡ c → ⊥
  pub full : (c : ℕ) → c < n → i < steps_round n h c → steps_round n h c ≤ t → 0 < old c

-- where the first cell more than i steps after h that is empty, or holds a key at home, is j steps after h
pub record IsPulled (n : ℕ) (home : ℕ → ℕ) (h i j : ℕ) (old new : ℕ → ℕ) : Type 0 where
  pub in_order : i < j
  pub in_table : j < n
  pub out : IsTakenOut n h i j old new
  pub stop : (c : ℕ) → c < n → steps_round n h c ≡ j → 0 < old c → home (old c) ≡ c
  pub away : (c : ℕ) → c < n → i < steps_round n h c → steps_round n h c < j → home (old c) ≡ c → ⊥
  pub full : (c : ℕ) → c < n → i < steps_round n h c → steps_round n h c < j → 0 < old c
