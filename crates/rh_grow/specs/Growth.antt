-- How many keys a table takes before it grows.
use Rattle.std.specs.Prelude.{ℕ, ◌*◌, ◌^◌, ◌≤◌}
use Rattle.rh_layout.specs.declared.limits.TheConstants.{MAX_BITS}
use Rattle.rh_grow.specs.declared.capacity.TheConstants.{LOAD_NUMERATOR, LOAD_DENOMINATOR}

-- n keys are no more than the share of 2 ^ b cells that a table may fill
-- 6 keys fit 3 bits (24 <= 24), 7 do not (28 > 24) and take 4; 196,608 keys fit 18 bits exactly
abbrev pub Fits : (b n : ℕ) → Type 0
Fits b n = LOAD_DENOMINATOR * n ≤ LOAD_NUMERATOR * 2 ^ b

-- b is the least size of a table, from `bits` on, that n keys fit
pub record IsCapacity (bits n b : ℕ) : Type 0 where
  pub no_less : bits ≤ b
  pub in_limit : b ≤ MAX_BITS
  pub fits : Fits b n
  pub least : (c : ℕ) → bits ≤ c → Fits c n → b ≤ c
