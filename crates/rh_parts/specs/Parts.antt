-- Keys and lists that are split into parts, by a hash of the keys that has nothing to do with their homes in a table.
-- The hash is one round of degski's mixer of 64 bits; how a part comes of it is this project's own.
use Rattle.std.specs.Prelude.{ℕ, ◌*◌, ◌/◌, ◌%◌, ◌^◌, ◌==◌, Bool, List, bit_xor, filter}
use Rattle.rh_parts.specs.declared.part.TheConstants.{MULTIPLIER}

-- the higher half of 64 bits laid over the lower one
abbrev pub folded : ℕ → ℕ
folded bits = bit_xor bits (bits / 2 ^ 32)

unfoldable pub mixed : ℕ → ℕ
mixed key = folded (folded key * MULTIPLIER % 2 ^ 64)

-- the part of so many in which a key stands: where the last 32 bits of the mixed key lie in their range, cut into as many pieces
-- of 3 parts, part 0 has 0 and 7, part 1 has 2 and 9, and part 2 has 1, 3, 4 and 5
unfoldable pub part_of : (parts key : ℕ) → ℕ
part_of parts key = mixed key % 2 ^ 32 * parts / 2 ^ 32

abbrev pub stands_in : (parts part key : ℕ) → Bool
stands_in parts part key = part_of parts key == part

-- the keys of a list that stand in a part, in the list's order
abbrev pub in_part : (parts part : ℕ) → List ℕ → List ℕ
in_part parts part keys = filter (stands_in parts part) keys
