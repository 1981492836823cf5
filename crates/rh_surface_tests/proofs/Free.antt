-- How many cells of a list are full, where one or two are known to be empty.
use Rattle.std.proofs.Common.{◌≡◌, ℕ, zero, suc, ◌+◌, ◌<◌, ◌≤◌, Bool, true, false, ap, arith, List, [], ◌∷◌, length, get_or, count_by, cond}
use Rattle.std.proofs.lemmas.List.Sums.{sum_by-cons, count_by-le-length}
use Rattle.rh_layout.specs.Key.{is_full}

abbrev full_count : List ℕ → ℕ
full_count cells = count_by is_full cells

count-empty : (value : ℕ) (cells : List ℕ) → value ≡ 0 → full_count (value ∷ cells) ≡ full_count cells
count-empty value cells none = ap (λ v. full_count (v ∷ cells)) none

at_most_one : (full : Bool) → cond full 1 0 ≤ 1
at_most_one full = elim full as (λ b. cond b 1 0 ≤ 1) [ true ↦ omega arith | false ↦ omega arith ]

count-more : (value : ℕ) (cells : List ℕ) → full_count (value ∷ cells) ≤ full_count cells + 1
count-more value cells = omega (arith, sum_by-cons (λ v. cond (is_full v) 1 0) value cells, at_most_one (is_full value))

pub one_is_free : (cells : List ℕ) (c : ℕ) → c < length cells → get_or cells c 0 ≡ 0 → full_count cells < length cells
one_is_free [] c c_in none = absurd (omega arith)
one_is_free (value ∷ cells) zero c_in none = omega (arith, count-empty value cells none, count_by-le-length is_full cells)
one_is_free (value ∷ cells) (suc c) c_in none = let later = one_is_free cells c (omega arith) none in omega (arith, count-more value cells)

pub two_are_free : (cells : List ℕ) (c d : ℕ) → c < d → d < length cells → get_or cells c 0 ≡ 0 → get_or cells d 0 ≡ 0 → full_count cells + 1 < length cells
two_are_free [] c d before d_in first second = absurd (omega arith)
two_are_free (value ∷ cells) c zero before d_in first second = absurd (omega arith)
two_are_free (value ∷ cells) zero (suc d) before d_in first second = let later = one_is_free cells d (omega arith) second in omega (arith, count-empty value cells first)
two_are_free (value ∷ cells) (suc c) (suc d) before d_in first second = let later = two_are_free cells c d (omega arith) (omega arith) first second in omega (arith, count-more value cells)
