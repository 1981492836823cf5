use Rattle.std.proofs.Common.{◌≡◌, ℕ, ◌+◌, ◌-◌, ◌*◌, ◌^◌, ◌%◌, ◌<◌, ◌≤◌, arith}
use Rattle.std.proofs.Math.Nat.{mod-lt}
use Rattle.std.proofs.lemmas.Nat.{shr_below, pow_pos}
use Rattle.rh_layout.specs.Order.{home_of}

pub is_cell : (b k : ℕ) → b ≤ 64 → home_of b k < 2 ^ b
unfolding home_of
is_cell b k h =
    let e : b + (64 - b) ≡ 64 = omega arith in
    shr_below (k * 11400714819323198485 % 2 ^ 64) b (64 - b) (rw e (mod-lt (k * 11400714819323198485) (pow_pos 64)))
