-- Cells in a circle of n.
use Rattle.std.specs.Prelude.{ℕ, ◌+◌, ◌-◌, ◌%◌, ◌<◌, ◌≡◌, ◌⊎◌}

-- how many steps lead from cell `from` round to cell `to`
-- steps_round 8 7 1 = 2: from 7 to 0, and from 0 to 1
unfoldable pub steps_round : (n from to : ℕ) → ℕ
steps_round n from to = (to + n - from) % n

-- the cell that i steps lead to
unfoldable pub cell_ahead : (n from i : ℕ) → ℕ
cell_ahead n from i = (from + i) % n

-- the cell before cell c
unfoldable pub cell_behind : (n c : ℕ) → ℕ
cell_behind n c = (c + n - 1) % n

-- c is the cell after p
abbrev pub IsNext : (n p c : ℕ) → Type 0
IsNext n p c = ((p + 1 ≡ c) × (c < n)) ⊎ ((p + 1 ≡ n) × (c ≡ 0))
