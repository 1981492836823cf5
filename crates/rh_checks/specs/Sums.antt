-- What the numbers of a list are: how many, how many different ones, the least and the greatest.
use Rattle.std.specs.Prelude.{◌≡◌, ℕ, ◌≤◌, List, [], ◌∷◌, length, Option, Some, None, All, Contains}
use Rattle.rh_combine.specs.Combine.{answer}
use Rattle.rh_combine.specs.declared.how.How.TheVariants.{Union}
use Rattle.rh_checks.specs.declared.sums.Span.{Span}
use Rattle.rh_checks.specs.declared.sums.Sums.{Sums}

-- the least and the greatest of the numbers: two of them, between which all are; `None` where there is none
abbrev pub IsSpan : List ℕ → Option Span → Type 0
IsSpan numbers None = numbers ≡ []
IsSpan numbers (Some span) =
    Contains numbers span.least × Contains numbers span.greatest × All (λ n. (span.least ≤ n) × (n ≤ span.greatest)) numbers

-- The different ones are those that `union` writes of the list: each number once.
pub record AreSums (numbers : List ℕ) (sums : Sums) : Type 0 where
  pub count : sums.count ≡ length numbers
  pub different : sums.different ≡ length (answer Union (numbers ∷ []))
  pub span : IsSpan numbers sums.span
