-- The size of a table that is to take some keys, as a function.
use Rattle.std.specs.Prelude.{ℕ, zero, suc, ◌+◌, ◌-◌, ◌*◌, ◌^◌, Bool, nat_le, if◌then◌else◌, Option, Some, None, Result, Ok, Err}
use Rattle.rh_layout.specs.declared.limits.TheConstants.{MAX_BITS}
use Rattle.rh_grow.specs.declared.capacity.TheConstants.{LOAD_NUMERATOR, LOAD_DENOMINATOR}
use Rattle.rh_operations.specs.declared.cause.Cause.{Cause}
use Rattle.rh_operations.specs.declared.cause.Cause.TheVariants.{TooLarge}

-- n keys are no more than the share of 2 ^ bits cells that a table may fill
abbrev pub fits : (bits n : ℕ) → Bool
fits bits n = nat_le (LOAD_DENOMINATOR * n) (LOAD_NUMERATOR * 2 ^ bits)

-- the first of so many sizes that n keys fit, of which the least is `bits`
abbrev pub first_that_fits : (sizes bits n : ℕ) → Option ℕ
first_that_fits zero bits n = None
first_that_fits (suc sizes) bits n = if fits bits n then Some bits else first_that_fits sizes (bits + 1) n

-- the least size from `bits` on that n keys fit
unfoldable pub capacity : (bits n : ℕ) → Option ℕ
capacity bits n = first_that_fits (MAX_BITS + 1 - bits) bits n

abbrev pub size_or_cause : Option ℕ → Result ℕ Cause
size_or_cause (Some size) = Ok size
size_or_cause None = Err TooLarge

-- the least size from `bits` on of a table that n keys fit, or why there is none
abbrev pub size_for : (bits n : ℕ) → Result ℕ Cause
size_for bits n = size_or_cause (capacity bits n)
