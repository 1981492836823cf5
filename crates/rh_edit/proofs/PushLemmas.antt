-- A step of the loop that pushes cells on.
use Rattle.std.proofs.Common.{◌≡◌, ℕ, ◌+◌, ◌<◌, arith, List, length, set, get_or-set_same, get_or-set_other}
use Rattle.rh_layout.specs.Round.{cell_ahead}
use Rattle.rh_layout.proofs.RoundLemmas.{ahead_below}
use Rattle.rh_layout.proofs.LayoutLemmas.{at}
use Rattle.rh_edit.specs.Put.{IsPartPut, IsPushed}
use Rattle.rh_edit.proofs.PutLemmas.{part_done, part_more}

module _ (n h i t value carry cell : ℕ) (old now : List ℕ) (size : length now ≡ n) (h_in : h < n) (t_in : t < n) (part : IsPartPut n h i t value carry (at old) (at now)) (is_at : cell ≡ cell_ahead n h t) where
  cell_in : cell < length now
  cell_in = rw (is_at, size) (ahead_below n h t (omega arith))

  written : at (set now cell carry) cell ≡ carry
  written = let inside = cell_in in get_or-set_same now cell carry 0 inside

  kept : (c : ℕ) → c < n → (c ≡ cell → ⊥) → at (set now cell carry) c ≡ at now c
  kept c c_in ne = get_or-set_other now cell c carry 0 ne

  pub push_done : at now cell ≡ 0 → IsPushed n h i t value (at old) (at (set now cell carry))
  push_done free = part_done n h i t value carry (at old) (at now) (at (set now cell carry)) h_in t_in part cell is_at written kept free

  pub push_more : 0 < at now cell → IsPartPut n h i (t + 1) value (at now cell) (at old) (at (set now cell carry))
  push_more some = part_more n h i t value carry (at old) (at now) (at (set now cell carry)) h_in t_in part cell is_at written kept some
