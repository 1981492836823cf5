-- What is answered of lists in ranges of numbers.
use Rattle.std.proofs.Common.{◌≡◌, ◌∙◌, ap, sym, subst, ℕ, zero, suc, ◌+◌, ◌-◌, ◌<◌, ◌≤◌, inl, inr, arith, List, ◌++◌, length}
use Rattle.std.specs.Prelude.{All, slice_index}
use Rattle.std.specs.List.Sorted.{IsStrictlyIncreasing}
use Rattle.std.proofs.lemmas.Map.Keys.{sorted_from_strictly_increasing}
use Rattle.std.proofs.lemmas.Bool.{cases_lt}
use Rattle.rh_layout.specs.Range.{stands, within}
use Rattle.rh_combine.specs.Combine.{AllWithin}
use Rattle.rh_combine.proofs.RangeLaws.{joined, lists_within_all}
use Rattle.rh_combine.proofs.RangeLemmas.{within_bounds}
use Rattle.rh_combine_workers.specs.Questions.{IsByNumber}

-- numbers of a range that rise are no more than the range has
few_rise : (a c : ℕ) (xs : List ℕ) → IsStrictlyIncreasing xs → All (λ k. (a ≤ k) × (k < c)) xs → length xs ≤ c - a
few_rise a c xs rise all =
    elim (cases_lt 0 (length xs)) [
      | inl some ↦ omega (arith, above (length xs - 1) (omega (arith, some)), (all (length xs - 1) 0 (omega (arith, some))).1)
      | inr none ↦ omega (arith, none)
    ]
  where
    above : (k : ℕ) → k < length xs → a + k ≤ slice_index xs k
    above zero inside = omega (arith, (all 0 0 inside).0)
    above (suc k) inside =
        let same : k + 1 ≡ suc k = omega arith in
        omega (arith, above k (omega (arith, inside)), rise k (omega (arith, inside)), ap (slice_index xs) same)

module _ (answer : List (List ℕ) → List ℕ) (by : IsByNumber answer) where
  -- two ranges, one after the other
  pub of_two : (a b c : ℕ) → a ≤ b → b ≤ c → (lists : List (List ℕ)) → within a c (answer lists) ≡ within a b (answer lists) ++ within b c (answer lists)
  of_two a b c first second lists = joined a b c first second (answer lists) (sorted_from_strictly_increasing (answer lists) (by.rises lists))

  -- a range that has all numbers
  pub of_all : (a c : ℕ) (lists : List (List ℕ)) → AllWithin a c lists → within a c (answer lists) ≡ answer lists
  of_all a c lists all = sym (by.of_part (stands a c) lists) ∙ ap answer (lists_within_all a c lists all)

  -- there are no more than the range has
  pub few_answered : (a c : ℕ) (lists : List (List ℕ)) → AllWithin a c lists → length (answer lists) ≤ c - a
  few_answered a c lists all =
      few_rise a c (answer lists) (by.rises lists) (subst (All (λ k. (a ≤ k) × (k < c))) (of_all a c lists all) (within_bounds a c (answer lists)))
