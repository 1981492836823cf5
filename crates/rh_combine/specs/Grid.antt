-- A range of numbers that is cut in parts.
use Rattle.std.specs.Prelude.{ℕ, ◌+◌, ◌*◌, ◌^◌, ◌<◌, ◌≤◌, ◌==◌, min, Bool, false, List, Option, Some, None}
use Rattle.rh_combine.specs.declared.cut.Grid.{Grid}
use Rattle.rh_layout.specs.Range.{stands, within}

-- where part p begins: each has 2 ^ shift numbers, but for the last one, which ends with the range
abbrev pub edge : Grid → ℕ → ℕ
edge grid p = min grid.to (grid.from + p * 2 ^ grid.shift)

-- the parts are the whole range
abbrev pub IsGrid : Grid → Type 0
IsGrid grid = (grid.from ≤ grid.to) × (grid.shift < 64) × (grid.to ≤ grid.from + grid.parts * 2 ^ grid.shift)

abbrev pub stands_in : Grid → (p key : ℕ) → Bool
stands_in grid p key = stands (edge grid p) (edge grid (p + 1)) key

-- the numbers of part p
abbrev pub in_part : Grid → ℕ → List ℕ → List ℕ
in_part grid p keys = within (edge grid p) (edge grid (p + 1)) keys

abbrev pub is_at : Option ℕ → ℕ → Bool
is_at None q = false
is_at (Some p) q = p == q
