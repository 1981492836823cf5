-- The test of a layout, as a function: each cell is seen beside the one before it.
use Rattle.std.specs.Prelude.{ℕ, zero, suc, ◌^◌, Bool, true, ◌&&◌, ◌||◌, ◌==◌, nat_lt, nat_le, List, length, slice_index}
use Rattle.rh_layout.specs.declared.limits.TheConstants.{MAX_KEY, MIN_BITS, MAX_BITS}
use Rattle.rh_layout.specs.Round.{cell_behind}
use Rattle.rh_layout.specs.Key.{key_in, is_full}
use Rattle.rh_layout.specs.Order.{dist_of}

-- whether j beats k at cell c
abbrev pub beats_at : (b c j k : ℕ) → Bool
beats_at b c j k = nat_lt (dist_of b c k) (dist_of b c j) || ((dist_of b c j == dist_of b c k) && nat_lt j k)

-- whether what stands in cell c beats k there
abbrev pub is_beaten : (b c value k : ℕ) → Bool
is_beaten b c value k = is_full value && beats_at b c (key_in value) k

-- whether cell c may hold this behind what stands in the cell before: nothing, or a key that is at home or is beaten there
abbrev pub may_stand : (b c value before : ℕ) → Bool
may_stand b c value before =
    (value == 0) || (nat_le (key_in value) MAX_KEY && ((dist_of b c (key_in value) == 0) || is_beaten b (cell_behind (2 ^ b) c) before (key_in value)))

abbrev pub is_placed : (b : ℕ) (cells : List ℕ) (c : ℕ) → Bool
is_placed b cells c = may_stand b c (slice_index cells c) (slice_index cells (cell_behind (2 ^ b) c))

-- whether each of the first n cells is placed
unfoldable pub are_placed : (b : ℕ) (cells : List ℕ) (n : ℕ) → Bool
are_placed b cells zero = true
are_placed b cells (suc c) = are_placed b cells c && is_placed b cells c

-- whether the cells are a layout, of the keys that they hold
unfoldable pub layout_test : (b : ℕ) (cells : List ℕ) → Bool
layout_test b cells = (nat_le MIN_BITS b && nat_le b MAX_BITS) && ((length cells == 2 ^ b) && are_placed b cells (2 ^ b))
