-- Two rankings of the same counts are one.
use Rattle.std.proofs.Common.{◌≡◌, ◌∙◌, ap, sym, refl, ℕ, zero, suc, ◌+◌, ◌^◌, ◌<◌, ◌≤◌, arith, inl, inr, Bool, true, false, List, [], ◌∷◌, get_or, length}
use Rattle.std.specs.Prelude.{All, map, ◌==◌, ◌||◌}
use Rattle.std.specs.List.{IsDistinct, list_any}
use Rattle.std.specs.List.Sorted.{IsStrictlyIncreasing}
use Rattle.std.specs.Cmp.{nat_eq_equiv}
use Rattle.std.specs.FinSet as set
use Rattle.std.proofs.lemmas.Bool.{cases_eq, eq-eqb, ne_eqb}
use Rattle.std.proofs.lemmas.List.{get_or-map, length-map}
use Rattle.std.proofs.lemmas.List.Sorted.{All-permutation, list_any-IsPermutation}
use Rattle.std.proofs.lemmas.Map.Keys.{IsDistinct-IsPermutation, IsDistinct-from_apart, apart_from_distinct}
use Rattle.rh_combine.specs.Combine.{has}
use Rattle.rh_combine.proofs.Meaning.{listed, same}
use Rattle.rh_edit.specs.Rising.{rising_keys}
use Rattle.rh_edit.proofs.RisingLemmas.{rising_is}
use Rattle.rh_questions.specs.declared.ranking.Combination.{Combination}
use Rattle.rh_questions.specs.Rankings.{IsRanking, occurring, rank}

-- both numbers are those of a word
record Fits (c : Combination) : Type 0 where
  pub lists : c.lists < 2 ^ 64
  pub count : c.count < 2 ^ 64

abbrev none : Combination
none = record { lists = 0; count = 0 }

-- ---- a rank tells the combination

same_lists : (c d : Combination) → Fits c → Fits d → rank c ≡ rank d → c.lists ≡ d.lists
same_lists c d fits fits' is = omega (arith, is, fits.lists, fits.count, fits'.lists, fits'.count)

same_count : (c d : Combination) → Fits c → Fits d → rank c ≡ rank d → c.count ≡ d.count
same_count c d fits fits' is = omega (arith, is, fits.lists, fits.count, fits'.lists, fits'.count)

told : (c d : Combination) → Fits c → Fits d → rank c ≡ rank d → c ≡ d
told c d fits fits' is = (λ j. record { lists = same_lists c d fits fits' is j; count = same_count c d fits fits' is j })

all_told : (a b : List Combination) → All Fits a → All Fits b → map rank a ≡ map rank b → a ≡ b
all_told [] [] fits fits' is = refl
all_told [] (d ∷ b) fits fits' is = absurd (omega (arith, ap length is))
all_told (c ∷ a) [] fits fits' is = absurd (omega (arith, ap length is))
all_told (c ∷ a) (d ∷ b) fits fits' is =
    let first : c ≡ d = told c d (fits 0 c (omega arith)) (fits' 0 d (omega arith)) (ap (λ l. get_or l 0 0) is) in
    let others : a ≡ b = all_told a b (λ i e inside. fits (suc i) e (omega (arith, inside))) (λ i e inside. fits' (suc i) e (omega (arith, inside))) (ap tail is) in
    (λ j. first j ∷ others j)
  where
    tail : List ℕ → List ℕ
    tail [] = []
    tail (x ∷ xs) = xs

-- ---- those that occur

later : (place : ℕ) (counts : List ℕ) (i : ℕ) (d : Combination) → i < length (occurring place counts) → place ≤ (get_or (occurring place counts) i d).lists
later place [] i d inside = absurd (omega (arith, inside))
later place (zero ∷ counts) i d inside = omega (arith, later (place + 1) counts i d inside)
later place (suc n ∷ counts) zero d inside = omega arith
later place (suc n ∷ counts) (suc i) d inside = omega (arith, later (place + 1) counts i d (omega (arith, inside)))

rising : (place : ℕ) (counts : List ℕ) (i j : ℕ) (d : Combination) → i < j → j < length (occurring place counts)
    → (get_or (occurring place counts) i d).lists < (get_or (occurring place counts) j d).lists
rising place [] i j d before inside = absurd (omega (arith, inside))
rising place (zero ∷ counts) i j d before inside = rising (place + 1) counts i j d before inside
rising place (suc n ∷ counts) i zero d before inside = absurd (omega (arith, before))
rising place (suc n ∷ counts) zero (suc j) d before inside = omega (arith, later (place + 1) counts j d (omega (arith, inside)))
rising place (suc n ∷ counts) (suc i) (suc j) d before inside = rising (place + 1) counts i j d (omega (arith, before)) (omega (arith, inside))

fitting : (place : ℕ) (counts : List ℕ) → place + length counts ≤ 2 ^ 64 → All (λ n. n < 2 ^ 64) counts → All Fits (occurring place counts)
fitting place [] few fits i d inside = absurd (omega (arith, inside))
fitting place (zero ∷ counts) few fits i d inside = fitting (place + 1) counts (omega (arith, few)) (λ j e here. fits (suc j) e (omega (arith, here))) i d inside
fitting place (suc n ∷ counts) few fits zero d inside = record { lists = omega (arith, few); count = fits 0 0 (omega arith) }
fitting place (suc n ∷ counts) few fits (suc i) d inside = fitting (place + 1) counts (omega (arith, few)) (λ j e here. fits (suc j) e (omega (arith, here))) i d (omega (arith, inside))

abbrev alike : Combination → Combination → Bool
alike c d = rank c == rank d

apart : (counts : List ℕ) → length counts ≤ 2 ^ 64 → All (λ n. n < 2 ^ 64) counts → IsDistinct alike (occurring 0 counts)
apart counts few fits =
    let all = fitting 0 counts (omega (arith, few)) fits in
    let found = occurring 0 counts in
    IsDistinct-from_apart alike found
    (λ i j d before inside. ne_eqb (rank (get_or found i d)) (rank (get_or found j d))
    (λ is. absurd (omega (arith, rising 0 counts i j d before inside, same_lists (get_or found i d) (get_or found j d) (all i d (omega (arith, before, inside))) (all j d inside) is))))

-- ---- a ranking

any_rank : (q : ℕ) (a : List Combination) → list_any (λ c. rank c == q) a ≡ has (map rank a) q
any_rank q [] = refl
any_rank q (c ∷ a) = ap (λ b. rank c == q || b) (any_rank q a)

alike_both : (c d : Combination) → alike c d ≡ alike d c
alike_both c d = nat_eq_equiv.symm (rank c) (rank d)

module _ (counts : List ℕ) (few : length counts ≤ 2 ^ 64) (fits : All (λ n. n < 2 ^ 64) counts) (a : List Combination) (are : IsRanking counts a) where
  fits_all : All Fits a
  fits_all = All-permutation Fits (occurring 0 counts) a are.each (fitting 0 counts (omega (arith, few)) fits)

  ranks_rise : IsStrictlyIncreasing (map rank a)
  ranks_rise k inside =
      let here : k + 1 < length a = omega (arith, inside, length-map a rank) in
      let order = are.order k (k + 1) none (omega arith) here in
      let differ = apart_from_distinct alike a k (k + 1) none (IsDistinct-IsPermutation alike alike_both (occurring 0 counts) a are.each (apart counts few fits)) (omega arith) here in
      let one = get_or-map rank a k none 0 (omega (arith, here)) in
      let next = get_or-map rank a (k + 1) none 0 here in
      elim (cases_eq (rank (get_or a k none)) (rank (get_or a (k + 1) none))) [
        | inl is ↦ absurd (never (sym (eq-eqb _ _ is) ∙ differ))
        | inr other ↦ omega (arith, order, other, one, next)
      ]
    where
      never : true ≡ false → ⊥
      never is = cc

  ranks_are : map rank a ≡ rising_keys (set.from_list (map rank (occurring 0 counts)))
  ranks_are =
      rising_is (set.from_list (map rank (occurring 0 counts))) (map rank a) ranks_rise
      (same _ _ (λ q.
      listed (map rank a) q ∙ sym (any_rank q a)
      ∙ sym (list_any-IsPermutation (λ c. rank c == q) (occurring 0 counts) a are.each)
      ∙ any_rank q (occurring 0 counts) ∙ sym (listed (map rank (occurring 0 counts)) q)))

pub one_ranking : (counts : List ℕ) → length counts ≤ 2 ^ 64 → All (λ n. n < 2 ^ 64) counts → (a b : List Combination) → IsRanking counts a → IsRanking counts b → a ≡ b
one_ranking counts few fits a b are are' = all_told a b (fits_all counts few fits a are) (fits_all counts few fits b are') (ranks_are counts few fits a are ∙ sym (ranks_are counts few fits b are'))
