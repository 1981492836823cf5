-- What is asked of lists of numbers.
use Rattle.std.specs.Prelude.{◌≡◌, ℕ, Bool, List, filter, map}
use Rattle.std.specs.List.Sorted.{IsStrictlyIncreasing}

-- What is answered of lists is numbers that rise, and whether a number is one depends on no other number: of those numbers of the
-- lists that pass a test come those that pass of what is answered.
pub record IsByNumber (answer : List (List ℕ) → List ℕ) : Type 0 where
  pub of_part : (passes : ℕ → Bool) (lists : List (List ℕ)) → answer (map (filter passes) lists) ≡ filter passes (answer lists)
  pub rises : (lists : List (List ℕ)) → IsStrictlyIncreasing (answer lists)
