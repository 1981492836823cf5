-- How what fits a table depends on its size.
use Rattle.std.proofs.Common.{ℕ, ◌≤◌, arith}
use Rattle.std.proofs.Math.Pow.{pow_mono}
use Rattle.rh_grow.specs.Growth.{Fits}

-- what fits a table fits a greater one
pub fits_more : (b c n : ℕ) → Fits b n → b ≤ c → Fits c n
fits_more b c n fits more = omega (arith, pow_mono more)
