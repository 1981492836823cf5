-- Homes, distances, and which of two keys keeps a cell that both want.
use Rattle.std.specs.Prelude.{ℕ, ◌-◌, ◌*◌, ◌/◌, ◌%◌, ◌^◌, ◌<◌, ◌≡◌, ◌⊎◌}
use Rattle.rh_layout.specs.declared.order.TheConstants.{MULTIPLIER}
use Rattle.rh_layout.specs.Key.{key_in}
use Rattle.rh_layout.specs.Round.{steps_round}

-- the cell where the search for k begins, of 2 ^ b cells
-- (Knuth's multiplicative hashing, by 2 ^ 64 over the golden ratio)
-- At 3 bits 0, 5 and 13 have home 0; 2 and 10 home 1; 7 and 15 home 2; 4 and 12 home 3; 1, 9, 17 and 22 home 4; 6 and 14 home 5;
-- 3 and 11 home 6; 8, 16 and 21 home 7.
unfoldable pub home_of : (b k : ℕ) → ℕ
home_of b k = k * MULTIPLIER % 2 ^ 64 / 2 ^ (64 - b)

-- the home of the key in a cell that holds this
abbrev pub home_in : (b value : ℕ) → ℕ
home_in b value = home_of b (key_in value)

-- how far cell c lies from the home of k
-- dist_of 3 1 21 = 2
abbrev pub dist_of : (b c k : ℕ) → ℕ
dist_of b c k = steps_round (2 ^ b) (home_of b k) c

-- j beats k at cell c: it is farther from its home there, or as far and the smaller key
-- (Celis 1986; that a tie goes to the smaller key is this project's, so that a set has one layout with a free cell)
-- Beats 3 5 9 17: both are 1 from home. Beats 3 0 16 5: 16 is 1 from home, and 5 is at home.
abbrev pub Beats : (b c j k : ℕ) → Type 0
Beats b c j k = (dist_of b c k < dist_of b c j) ⊎ ((dist_of b c j ≡ dist_of b c k) × (j < k))
