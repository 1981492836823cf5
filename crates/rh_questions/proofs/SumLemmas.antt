-- The tallies of all combinations add up.
use Rattle.std.proofs.Common.{◌≡◌, ◌∙◌, ap, sym, refl, ℕ, zero, suc, ◌+◌, ◌^◌, ◌<◌, ◌≤◌, arith, inl, inr, Bool, true, false, cond, List, [], ◌∷◌, get_or, length}
use Rattle.std.specs.Prelude.{filter, sum_by, ◌==◌}
use Rattle.std.proofs.lemmas.Bool.{cases_eq, eq-eqb, ne_eqb}
use Rattle.std.proofs.lemmas.List.{length-map}
use Rattle.std.proofs.lemmas.List.Sums.{sum_by-cons}
use Rattle.rh_combine.specs.Combine.{answer, has}
use Rattle.rh_combine.specs.declared.how.How.TheVariants.{Union}
use Rattle.rh_questions.specs.Selections.{code, row_of}
use Rattle.rh_questions.specs.Tallies.{AreTallies}
use Rattle.rh_questions.proofs.CodeLemmas.{coded_first, coded_fits}

-- ---- sums of values below a number

abbrev total : (m : ℕ) → (ℕ → ℕ) → ℕ
total zero g = 0
total (suc m) g = total m g + g m

total_same : (m : ℕ) (g h : ℕ → ℕ) → ((c : ℕ) → c < m → g c ≡ h c) → total m g ≡ total m h
total_same zero g h same = refl
total_same (suc m) g h same = (λ j. total_same m g h (λ c inside. same c (omega (arith, inside))) j + same m (omega arith) j)

total_both : (m : ℕ) (g h : ℕ → ℕ) → total m (λ c. g c + h c) ≡ total m g + total m h
total_both zero g h = refl
total_both (suc m) g h = omega (arith, total_both m g h)

total_zero : (m : ℕ) → total m (λ c. 0) ≡ 0
total_zero zero = refl
total_zero (suc m) = omega (arith, total_zero m)

-- the first value stands alone
total_front : (m : ℕ) (g : ℕ → ℕ) → total (suc m) g ≡ g 0 + total m (λ c. g (suc c))
total_front zero g = omega arith
total_front (suc m) g = omega (arith, total_front m g)

sum_is_total : (counts : List ℕ) → sum_by (λ n. n) counts ≡ total (length counts) (λ c. get_or counts c 0)
sum_is_total [] = refl
sum_is_total (n ∷ counts) = sum_by-cons (λ n. n) n counts ∙ ap (λ k. n + k) (sum_is_total counts) ∙ sym (total_front (length counts) (λ c. get_or (n ∷ counts) c 0))

-- ---- each value is counted once

abbrev one_at : (v c : ℕ) → ℕ
one_at v c = cond (v == c) 1 0

none_below : (m v : ℕ) → m ≤ v → total m (one_at v) ≡ 0
none_below zero v above = refl
none_below (suc m) v above = omega (arith, none_below m v (omega (arith, above)), ap {B = ℕ} (λ b. cond b 1 0) (ne_eqb v m (λ e. absurd (omega (arith, e, above)))))

once : (m v : ℕ) → v < m → total m (one_at v) ≡ 1
once zero v inside = absurd (omega (arith, inside))
once (suc m) v inside =
    elim (cases_eq v m) [
      | inl same ↦ omega (arith, none_below m v (omega (arith, same)), ap {B = ℕ} (λ b. cond b 1 0) (eq-eqb v m same))
      | inr other ↦ omega (arith, once m v (omega (arith, inside, other)), ap {B = ℕ} (λ b. cond b 1 0) (ne_eqb v m other))
    ]

module _ (f : ℕ → ℕ) (m : ℕ) (fits : (k : ℕ) → f k < m) where
  abbrev of : List ℕ → ℕ → ℕ
  of xs c = length (filter (λ k. f k == c) xs)

  of_more : (x : ℕ) (xs : List ℕ) (c : ℕ) → of (x ∷ xs) c ≡ one_at (f x) c + of xs c
  of_more x xs c = by (f x == c)
    where
      by : (b : Bool) → length (cond b (x ∷ filter (λ k. f k == c) xs) (filter (λ k. f k == c) xs)) ≡ cond b 1 0 + of xs c
      by true = omega arith
      by false = omega arith

  each_once : (xs : List ℕ) → total m (of xs) ≡ length xs
  each_once [] = total_zero m
  each_once (x ∷ xs) =
      omega (arith, total_same m (of (x ∷ xs)) (λ c. one_at (f x) c + of xs c) (λ c inside. of_more x xs c), total_both m (one_at (f x)) (of xs), once m (f x) (fits x), each_once xs)

pub add_up : (lists : List (List ℕ)) (counts : List ℕ) → AreTallies lists counts → sum_by (λ n. n) counts ≡ length (answer Union lists)
add_up lists counts are =
    let m : ℕ = 2 ^ length lists in
    let f : ℕ → ℕ = λ k. code (row_of lists k) in
    let fits : (k : ℕ) → f k < m = λ k.
    let many : 0 + length (row_of lists k) ≡ length lists = omega (arith, length-map lists (λ keys. has keys k)) in
    omega (arith, coded_fits (row_of lists k) 0, coded_first (row_of lists k), ap (λ n. 2 ^ n) many) in
    sum_is_total counts ∙ ap (λ n. total n (λ c. get_or counts c 0)) are.len
    ∙ total_same m (λ c. get_or counts c 0) (of f m fits (answer Union lists)) are.each
    ∙ each_once f m fits (answer Union lists)
