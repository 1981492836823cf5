-- The ordered table of a set of keys.
use Rattle.std.specs.Prelude.{ℕ, ◌^◌, ◌<◌, ◌≡◌, List, length, slice_index, map, filter, IsTrue}
use Rattle.std.specs.Ordering.{nat_cmp}
use Rattle.std.specs.FinSet as set
use Rattle.std.specs.FinSet.{FinSet, contains}
use Rattle.rh_layout.specs.Round.{cell_ahead, cell_behind}
use Rattle.rh_layout.specs.Key.{IsKey, IsBits, cell_of, key_in, is_full}
use Rattle.rh_layout.specs.Order.{home_of, dist_of, Beats}

-- a finite set of keys
abbrev pub Keys : Type 0
Keys = FinSet nat_cmp

-- cell c holds key k
abbrev pub Holds : (cells : List ℕ) (c k : ℕ) → Type 0
Holds cells c k = (c < length cells) × (slice_index cells c ≡ cell_of k)

-- cell c holds a key that beats k there
abbrev pub IsBeatenAt : (cells : List ℕ) (b c k : ℕ) → Type 0
IsBeatenAt cells b c k = (j : ℕ) × Holds cells c j × Beats b c j k

-- The cells are a table of the keys of S, each in one cell and nothing else in any, and each cell on the
-- way from a key's home to the key holds a key that beats it there.
-- (Celis 1986, as a relation on a whole table)
-- [0, 0, 0, 0, 2, 10, 18, 0] is the layout of 1, 9 and 17, all of home 4. [17, 22, 6, 0, 0, 0, 0, 9] is that of 5, 8, 16 and 21,
-- round the end: 5 gave way to 16 at its home 0, and to 21 at cell 1.
pub record Layout (cells : List ℕ) (b : ℕ) (S : Keys) : Type 0 where
  pub bits : IsBits b
  pub size : length cells ≡ 2 ^ b
  pub keys : (k : ℕ) → IsTrue (contains S k) → IsKey k
  pub held : (k : ℕ) → IsTrue (contains S k) → (c : ℕ) × Holds cells c k
  pub once : (c d k : ℕ) → Holds cells c k → Holds cells d k → c ≡ d
  pub no_other : (c k : ℕ) → Holds cells c k → IsTrue (contains S k)
  pub beaten : (c k : ℕ) → Holds cells c k → (i : ℕ) → i < dist_of b c k → IsBeatenAt cells b (cell_ahead (2 ^ b) (home_of b k) i) k

-- the keys that the cells hold
unfoldable pub keys_of : List ℕ → Keys
keys_of cells = set.from_list (map key_in (filter is_full cells))

-- the cells are a layout, of the keys that they hold
abbrev pub IsLayout : (b : ℕ) (cells : List ℕ) → Type 0
IsLayout b cells = Layout cells b (keys_of cells)

-- what cell c holds of a layout, seen beside the cell before: nothing, or a key that is at home or is beaten there
abbrev pub IsPlaced : (b : ℕ) (cells : List ℕ) (c : ℕ) → Type 0
IsPlaced b cells c = (k : ℕ) → Holds cells c k → IsKey k × (0 < dist_of b c k → IsBeatenAt cells b (cell_behind (2 ^ b) c) k)

-- a cell is empty
abbrev pub HasFree : List ℕ → Type 0
HasFree cells = (c : ℕ) × (c < length cells) × (slice_index cells c ≡ 0)

-- two cells are empty
abbrev pub HasTwoFree : List ℕ → Type 0
HasTwoFree cells = (c d : ℕ) × (c < d) × (d < length cells) × (slice_index cells c ≡ 0) × (slice_index cells d ≡ 0)
