-- Borders, and the part between two of them in which a number stands.
use Rattle.std.proofs.Common.{◌≡◌, ap, refl, ℕ, zero, suc, ◌+◌, ◌-◌, ◌<◌, ◌≤◌, inl, inr, arith, Bool, true, false, List, length}
use Rattle.std.specs.Prelude.{◌&&◌, ◌==◌, slice_index}
use Rattle.std.proofs.lemmas.Bool.{cases_lt, eq-eqb, le-ltb, lt-ltb, ne_eqb}
use Rattle.rh_layout.specs.declared.limits.TheConstants.{MAX_KEY}
use Rattle.rh_layout.specs.Range.{stands}
use Rattle.rh_cutting.specs.Borders.{AreBorders, StandsIn}

module _ (borders : List ℕ) (are : AreBorders borders) where
  pub rises : (i k : ℕ) → i + k < length borders → slice_index borders i ≤ slice_index borders (i + k)
  rises i zero inside = let same : i + 0 ≡ i = omega arith in omega (arith, ap (slice_index borders) same)
  rises i (suc k) inside =
      let before : slice_index borders i ≤ slice_index borders (i + k) = rises i k (omega (arith, inside)) in
      let next : slice_index borders (i + k) ≤ slice_index borders (i + k + 1) = are.rise (i + k) (omega (arith, inside)) in
      let same : i + suc k ≡ i + k + 1 = omega arith in
      omega (arith, before, next, ap (slice_index borders) same)

  pub rise_to : (i j : ℕ) → i ≤ j → j < length borders → slice_index borders i ≤ slice_index borders j
  rise_to i j order inside =
      let same : i + (j - i) ≡ j = omega (arith, order) in
      let got = rises i (j - i) (omega (arith, order, inside)) in
      omega (arith, got, ap (slice_index borders) same)

  pub all_keys_below : (p : ℕ) → p < length borders → slice_index borders p ≤ MAX_KEY + 1
  all_keys_below p inside =
      let end : length borders - 1 + 1 ≡ length borders = omega (arith, are.some) in
      let got = rise_to p (length borders - 1) (omega (arith, inside)) (omega (arith, are.some)) in
      omega (arith, got, are.last (length borders - 1) end)

  and_none : (t : Bool) → (t && false) ≡ false
  and_none true = refl
  and_none false = refl

  pub part_is : (low key : ℕ) → StandsIn borders low key → (p : ℕ) → p + 1 < length borders → stands (slice_index borders p) (slice_index borders (p + 1)) key ≡ (low == p)
  part_is low key there p here =
      elim (cases_lt p low) [
        | inl before ↦
            let past : slice_index borders (p + 1) ≤ key = omega (arith, rise_to (p + 1) low (omega (arith, before)) (omega (arith, there.inside)), there.above) in
            rw (le-ltb key (slice_index borders (p + 1)) past, ne_eqb low p (λ e. omega (arith, e, before))) (and_none _)
        | inr no_less ↦
            elim (cases_lt low p) [
              | inl behind ↦
                  let early : key < slice_index borders p = omega (arith, rise_to (low + 1) p (omega (arith, behind)) (omega (arith, here)), there.below) in
                  rw (lt-ltb key (slice_index borders p) early, ne_eqb low p (λ e. omega (arith, e, behind))) refl
              | inr no_more ↦
                  let same : low ≡ p = omega (arith, no_less, no_more) in
                  let begun : slice_index borders p ≤ key = omega (arith, ap (slice_index borders) same, there.above) in
                  let not_past : key < slice_index borders (p + 1) = omega (arith, ap (λ n. slice_index borders (n + 1)) same, there.below) in
                  rw (le-ltb key (slice_index borders p) begun, lt-ltb key (slice_index borders (p + 1)) not_past, eq-eqb low p same) refl
            ]
      ]
