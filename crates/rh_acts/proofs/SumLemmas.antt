-- What the workers count, joined.
use Rattle.std.proofs.Common.{◌≡◌, ℕ, zero, suc, ◌+◌, ◌<◌, ◌≤◌, inl, inr, refl, ap, ◌∙◌, sym, arith, List, [], ◌∷◌, length, false, cond}
use Rattle.std.specs.Prelude.{nat_eq}
use Rattle.std.specs.List.{sum_by}
use Rattle.std.proofs.lemmas.Bool.{cases_eq, eq-eqb}
use Rattle.std.proofs.lemmas.Bool.Decides.{nat_tests}
use Rattle.std.proofs.lemmas.List.Sums.{sum_by-cons, sum_by-append}
use Rattle.rh_ledger.specs.declared.tally.Tally.{Tally}
use Rattle.rh_acts.specs.Act.{Act}
use Rattle.rh_acts.specs.Workers.{Made, acts_of, own, AreOf, joined, piece, sum_of_all}
use Rattle.rh_acts.proofs.ActLemmas.{contains_head, contains_tail}
use Rattle.rh_acts.proofs.FoldLemmas.{true_or_false, then_is, else_is}
use Rattle.rh_acts.proofs.OwnLemmas.{own_yes, own_no}

-- ---- the sum of the first n numbers

abbrev pub sum_upto : (f : ℕ → ℕ) (n : ℕ) → ℕ
sum_upto f zero = 0
sum_upto f (suc n) = sum_upto f n + f n

pub upto_same : (f g : ℕ → ℕ) (n : ℕ) → ((w : ℕ) → w < n → f w ≡ g w) → sum_upto f n ≡ sum_upto g n
upto_same f g zero e = refl
upto_same f g (suc n) e = omega (arith, upto_same f g n (λ w l. e w (omega arith)), e n (omega arith))

pub upto_zero : (n : ℕ) → sum_upto (λ w. 0) n ≡ 0
upto_zero zero = refl
upto_zero (suc n) = omega (arith, upto_zero n)

pub upto_add : (f g : ℕ → ℕ) (n : ℕ) → sum_upto (λ w. f w + g w) n ≡ sum_upto f n + sum_upto g n
upto_add f g zero = refl
upto_add f g (suc n) = omega (arith, upto_add f g n)

pub upto_first : (f : ℕ → ℕ) (n : ℕ) → sum_upto f (suc n) ≡ f 0 + sum_upto (λ w. f (suc w)) n
upto_first f zero = omega arith
upto_first f (suc n) = omega (arith, upto_first f n)

-- ---- one number among zeros

upto_none : (v c n : ℕ) → n ≤ v → sum_upto (λ w. cond (nat_eq v w) c 0) n ≡ 0
upto_none v c zero l = refl
upto_none v c (suc n) l =
    let other : nat_eq v n ≡ false = grind (arith, nat_tests) in
    omega (arith, upto_none v c n (omega arith), else_is (nat_eq v n) c 0 other)

pub upto_one : (v c n : ℕ) → v < n → sum_upto (λ w. cond (nat_eq v w) c 0) n ≡ c
upto_one v c zero l = absurd (omega arith)
upto_one v c (suc n) l =
    elim (cases_eq v n) [
      | inl is ↦ omega (arith, upto_none v c n (omega arith), then_is (nat_eq v n) c 0 (eq-eqb v n is))
      | inr ne ↦
          let other : nat_eq v n ≡ false = grind (arith, nat_tests) in
          omega (arith, upto_one v c n (omega arith), else_is (nat_eq v n) c 0 other)
    ]

-- ---- sums over the workers

-- over their lists
pub upto_joined : {X : Type 0} (g : X → ℕ) (pieces : List (List X)) → sum_upto (λ w. sum_by g (piece pieces w)) (length pieces) ≡ sum_by g (joined pieces)
upto_joined g [] = refl
upto_joined g (x ∷ xs) = upto_first (λ w. sum_by g (piece (x ∷ xs) w)) (length xs) ∙ ap (λ n. sum_by g x + n) (upto_joined g xs) ∙ sym (sum_by-append g x (joined xs))

own_more : (g : Act → ℕ) (w : ℕ) (m : Made) (ms : List Made) → sum_by g (own w (m ∷ ms)) ≡ cond (nat_eq m.worker w) (g m.act) 0 + sum_by g (own w ms)
own_more g w m ms =
    elim (true_or_false (nat_eq m.worker w)) [
      | inl yes' ↦ omega (arith, ap (sum_by g) (own_yes w m ms yes'), sum_by-cons g m.act (own w ms), then_is (nat_eq m.worker w) (g m.act) 0 yes')
      | inr no' ↦ omega (arith, ap (sum_by g) (own_no w m ms no'), else_is (nat_eq m.worker w) (g m.act) 0 no')
    ]

-- over their own acts
pub upto_own : (g : Act → ℕ) (workers : ℕ) (made : List Made) → AreOf workers made → sum_upto (λ w. sum_by g (own w made)) workers ≡ sum_by g (acts_of made)
upto_own g workers [] owned = upto_zero workers
upto_own g workers (m ∷ ms) owned =
    omega (
      arith,
      upto_same (λ w. sum_by g (own w (m ∷ ms))) (λ w. cond (nat_eq m.worker w) (g m.act) 0 + sum_by g (own w ms)) workers (λ w l. own_more g w m ms),
      upto_add (λ w. cond (nat_eq m.worker w) (g m.act) 0) (λ w. sum_by g (own w ms)) workers,
      upto_one m.worker (g m.act) workers (owned m (contains_head m ms)),
      upto_own g workers ms (λ x h. owned x (contains_tail m x ms h)),
      sum_by-cons g m.act (acts_of ms),
    )

pub ones : {X : Type 0} (xs : List X) → sum_by (λ x. 1) xs ≡ length xs
ones [] = refl
ones (x ∷ xs) = omega (arith, sum_by-cons (λ y. 1) x xs, ones xs)

pub upto_lengths : {X : Type 0} (pieces : List (List X)) → sum_upto (λ w. length (piece pieces w)) (length pieces) ≡ length (joined pieces)
upto_lengths pieces = upto_same (λ w. length (piece pieces w)) (λ w. sum_by (λ x. 1) (piece pieces w)) (length pieces) (λ w l. sym (ones (piece pieces w))) ∙ upto_joined (λ x. 1) pieces ∙ ones (joined pieces)

-- ---- joined tallies, field by field

pub read_of_all : (t : ℕ → Tally) (n : ℕ) → (sum_of_all t n).read ≡ sum_upto (λ w. (t w).read) n
read_of_all t zero = refl
read_of_all t (suc n) = ap (λ m. m + (t n).read) (read_of_all t n)

pub added_of_all : (t : ℕ → Tally) (n : ℕ) → (sum_of_all t n).added ≡ sum_upto (λ w. (t w).added) n
added_of_all t zero = refl
added_of_all t (suc n) = ap (λ m. m + (t n).added) (added_of_all t n)

pub removed_of_all : (t : ℕ → Tally) (n : ℕ) → (sum_of_all t n).removed ≡ sum_upto (λ w. (t w).removed) n
removed_of_all t zero = refl
removed_of_all t (suc n) = ap (λ m. m + (t n).removed) (removed_of_all t n)

pub found_of_all : (t : ℕ → Tally) (n : ℕ) → (sum_of_all t n).found ≡ sum_upto (λ w. (t w).found) n
found_of_all t zero = refl
found_of_all t (suc n) = ap (λ m. m + (t n).found) (found_of_all t n)
