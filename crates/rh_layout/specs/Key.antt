-- Keys, sizes of tables, and what a cell holds of a key.
use Rattle.std.specs.Prelude.{ℕ, ◌+◌, ◌-◌, ◌≤◌, Bool, not, ◌==◌}
use Rattle.rh_layout.specs.declared.limits.TheConstants.{MAX_KEY, MIN_BITS, MAX_BITS}

abbrev pub IsKey : ℕ → Type 0
IsKey k = k ≤ MAX_KEY

-- the sizes that a table may have, as powers of 2
abbrev pub IsBits : ℕ → Type 0
IsBits b = (MIN_BITS ≤ b) × (b ≤ MAX_BITS)

-- What a cell holds of a key. 0 is an empty cell.
-- cell_of 17 = 18; a cell with 1 holds key 0
abbrev pub cell_of : ℕ → ℕ
cell_of k = k + 1

-- the key in a cell that is not empty
abbrev pub key_in : ℕ → ℕ
key_in value = value - 1

abbrev pub is_full : ℕ → Bool
is_full value = not (value == 0)
