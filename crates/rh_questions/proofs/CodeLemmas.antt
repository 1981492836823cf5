-- Rows as numbers in binary digits.
use Rattle.std.proofs.Common.{◌≡◌, ◌∙◌, ap, sym, refl, ℕ, zero, suc, ◌+◌, ◌*◌, ◌/◌, ◌%◌, ◌^◌, ◌<◌, ◌≤◌, arith, Bool, true, false, cond, List, [], ◌∷◌, ◌++◌, length, get_or, count_by, count_ones, nat_eq}
use Rattle.std.specs.Int.{bit_at}
use Rattle.std.proofs.lemmas.Nat.{pow-add}
use Rattle.std.proofs.lemmas.Nat.Bits.{bit_at-suc, bit_at-zero, bit_at_above, bit_at_lowest}
use Rattle.std.proofs.lemmas.List.Sums.{sum_by-cons}
use lib.Count.{ones_step}
use Rattle.rh_questions.specs.Rows.{coded}
use Rattle.rh_questions.specs.Selections.{code}

-- ---- digits

lowest : (b : Bool) (n : ℕ) → (cond b 1 0 + 2 * n) % 2 ≡ cond b 1 0
lowest true n = omega arith
lowest false n = omega arith

others : (b : Bool) (n : ℕ) → (cond b 1 0 + 2 * n) / 2 ≡ n
others true n = omega arith
others false n = omega arith

pub digit : (row : List Bool) (i : ℕ) → bit_at (code row) i ≡ cond (get_or row i false) 1 0
digit [] i = bit_at-zero i
digit (b ∷ row) zero = bit_at_lowest (code (b ∷ row)) ∙ lowest b (code row)
digit (b ∷ row) (suc i) = bit_at-suc (code (b ∷ row)) i ∙ ap (λ n. bit_at n i) (others b (code row)) ∙ digit row i

no_digit : (b : Bool) (n : ℕ) → n ≡ cond b 1 0 → n ≡ 0 → b ≡ false
no_digit true n is none = absurd (omega (arith, is, none))
no_digit false n is none = refl

-- a word has no digit behind its last one
pub digit_above : (row : List Bool) (i : ℕ) → code row < 2 ^ 64 → 64 ≤ i → get_or row i false ≡ false
digit_above row i fits behind = no_digit (get_or row i false) (bit_at (code row) i) (digit row i) (bit_at_above (code row) 64 i fits behind)

pub count_digits : (row : List Bool) → count_ones (code row) ≡ count_by (λ b. b) row
unfolding lib.Count.ones
count_digits [] = refl
count_digits (b ∷ row) =
    ones_step (code (b ∷ row))
    ∙ (λ j. lowest b (code row) j + count_ones (others b (code row) j))
    ∙ ap (λ n. cond b 1 0 + n) (count_digits row)
    ∙ sym (sum_by-cons (λ b. cond b 1 0) b row)

-- the test of a word's digit
pub is_digit : (b : Bool) (n : ℕ) → n ≡ cond b 1 0 → nat_eq n 1 ≡ b
is_digit true n is = ap (λ n. nat_eq n 1) is
is_digit false n is = ap (λ n. nat_eq n 1) is

-- ---- from a digit on

double : (p : ℕ) → 2 ^ (p + 1) ≡ 2 * 2 ^ p
double p = omega (arith, pow-add 2 p 1)

twice : (b : Bool) (p : ℕ) → cond b (2 ^ (p + 1)) 0 ≡ 2 * cond b (2 ^ p) 0
twice true p = double p
twice false p = refl

shifted : (row : List Bool) (p : ℕ) → coded (p + 1) row ≡ 2 * coded p row
shifted [] p = omega arith
shifted (b ∷ row) p = omega (arith, twice b p, shifted row (p + 1))

pub coded_first : (row : List Bool) → coded 0 row ≡ code row
coded_first [] = refl
coded_first (b ∷ row) = ap (λ n. cond b 1 0 + n) (shifted row 0 ∙ ap (λ n. 2 * n) (coded_first row))

pub coded-append : (xs ys : List Bool) (p : ℕ) → coded p (xs ++ ys) ≡ coded p xs + coded (p + length xs) ys
coded-append [] ys p = from_here ys p
  where
    from_here : (ys : List Bool) (p : ℕ) → coded p ys ≡ 0 + coded (p + 0) ys
    from_here ys p =
        let same : p ≡ p + 0 = omega arith in
        omega (arith, ap (λ n. coded n ys) same)
coded-append (x ∷ xs) ys p =
    let place : p + 1 + length xs ≡ p + length (x ∷ xs) = omega arith in
    omega (arith, coded-append xs ys (p + 1), ap (λ n. coded n ys) place)

digit_fits : (b : Bool) (p : ℕ) → cond b (2 ^ p) 0 ≤ 2 ^ p
digit_fits true p = here (2 ^ p)
  where
    here : (n : ℕ) → n ≤ n
    here n = omega arith
digit_fits false p = omega arith

pub coded_fits : (row : List Bool) (p : ℕ) → coded p row + 2 ^ p ≤ 2 ^ (p + length row)
coded_fits [] p = omega (arith, ap (λ n. 2 ^ n) (none p))
  where
    none : (p : ℕ) → p + 0 ≡ p
    none p = omega arith
coded_fits (b ∷ row) p =
    let place : p + 1 + length row ≡ p + length (b ∷ row) = omega arith in
    let first : coded p (b ∷ row) ≡ cond b (2 ^ p) 0 + coded (p + 1) row = refl in
    omega (arith, first, double p, digit_fits b p, coded_fits row (p + 1), ap (λ n. 2 ^ n) place)
