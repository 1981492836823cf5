use Rattle.std.proofs.Common.{◌++◌, ℕ, List, take}
use Rattle.rh_checks.specs.Sums.{IsSpan}
use Rattle.rh_checks.proofs.sums.with_numbers.Given as goal

abbrev pub invariant-loop-number : goal.invariant-loop-number
invariant-loop-number l = (before : List ℕ) → IsSpan before l.fn.begun → IsSpan (before ++ take l.number-index l.numbers) l.span
