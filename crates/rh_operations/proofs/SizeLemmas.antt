-- The size of a table, as a number that is enough and least, and as a function.
use Rattle.std.proofs.Common.{◌≡◌, ap, sym, subst, refl, arith, ℕ, zero, suc, ◌+◌, ◌-◌, ◌^◌, ◌<◌, ◌≤◌, inl, inr, Some, None, Ok, Err}
use Rattle.std.proofs.Math.Nat.{one-le-pow}
use Rattle.std.proofs.Math.Pow.{pow_mono}
use Rattle.std.proofs.lemmas.Bool.{cases_Bool, leb-true, leb-false}
use Rattle.rh_layout.specs.Key.{IsBits}
use Rattle.rh_layout.specs.declared.limits.TheConstants.{MAX_BITS}
use Rattle.rh_grow.specs.Growth.{Fits, IsCapacity}
use Rattle.rh_operations.specs.declared.cause.Cause.TheVariants.{TooLarge}
use Rattle.rh_operations.specs.Size.{capacity, first_that_fits, fits}
use Rattle.rh_operations.specs.Size.{size_for, size_or_cause}

-- the least size is the first that fits
first_is_least : (sizes bits n least : ℕ) → bits ≤ least → least < bits + sizes → Fits least n → ((c : ℕ) → bits ≤ c → Fits c n → least ≤ c) → first_that_fits sizes bits n ≡ Some least
first_is_least zero bits n least above below enough none_less = absurd (omega (arith, above, below))
first_is_least (suc sizes) bits n least above below enough none_less =
    elim (cases_Bool (fits bits n)) [
      | inl now ↦
          let here : Fits bits n = leb-true _ _ now in
          let same : bits ≡ least = omega (arith, above, none_less bits (omega arith) here) in
          rw now (ap Some same)
      | inr later ↦
          let not_here : ¬ (bits ≡ least) = λ e. omega (arith, leb-false _ _ later, subst (λ c. Fits c n) (sym e) enough) in
          rw later (first_is_least sizes (bits + 1) n least (omega (arith, above, not_here)) (omega (arith, below)) enough (λ c more. none_less c (omega (arith, more))))
    ]

none_fits : (sizes bits n : ℕ) → ((c : ℕ) → c < bits + sizes → ¬ Fits c n) → first_that_fits sizes bits n ≡ None
none_fits zero bits n none = refl
none_fits (suc sizes) bits n none =
    elim (cases_Bool (fits bits n)) [
      | inl now ↦ absurd (none bits (omega arith) (leb-true _ _ now))
      | inr later ↦ rw later (none_fits sizes (bits + 1) n (λ c less. none c (omega (arith, less))))
    ]

smaller_fits : (c n : ℕ) → c ≤ MAX_BITS → Fits c n → Fits MAX_BITS n
smaller_fits c n le enough = omega (arith, enough, pow_mono le)

pub sized : (bits n size : ℕ) → IsCapacity bits n size → size_for bits n ≡ Ok size
unfolding capacity
sized bits n size is =
    let found : first_that_fits (MAX_BITS + 1 - bits) bits n ≡ Some size =
    first_is_least (MAX_BITS + 1 - bits) bits n size is.no_less (omega (arith, is.no_less, is.in_limit)) is.fits is.least in
    ap size_or_cause found

pub not_sized : (bits n : ℕ) → IsBits bits → ¬ Fits MAX_BITS n → size_for bits n ≡ Err TooLarge
unfolding capacity
not_sized bits n in_limits none =
    let found : first_that_fits (MAX_BITS + 1 - bits) bits n ≡ None =
    none_fits (MAX_BITS + 1 - bits) bits n (λ c less enough. none (smaller_fits c n (omega (arith, less, in_limits)) enough)) in
    ap size_or_cause found

-- a table of this size has a free cell
pub fits_below : (size n : ℕ) → Fits size n → n < 2 ^ size
fits_below size n enough = omega (arith, enough, one-le-pow size 2 (omega arith))

pub ruleset size_found = (sized, not_sized, fits_below)
