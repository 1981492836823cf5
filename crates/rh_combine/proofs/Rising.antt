-- The numbers of a set in rising order, and how many there are.
use Rattle.std.proofs.Common.{◌≡◌, ◌∙◌, ap, sym, subst, refl, ℕ, ◌-◌, ◌<◌, ◌≤◌, ◌⊎◌, inl, inr, arith, Bool, true, false, cond, List, [], ◌∷◌, length}
use Rattle.std.specs.Prelude.{filter, not, ◌&&◌, ◌||◌}
use Rattle.std.specs.List.{AllByRecursion, list_any}
use Rattle.std.specs.List.Sorted.{IsStrictlyIncreasing, IsStrictlySortedBy}
use Rattle.std.specs.Ordering.{MatchOrdering, eq_by_cmp, match_ordering, nat_cmp, ordering_reverse}
use Rattle.std.specs.declared.cmp.Ordering.{Ordering}
use Rattle.std.specs.declared.cmp.Ordering.TheVariants.{Less, Equal, Greater}
use Rattle.std.specs.Cmp.{nat_cmp_total, ranks, unsigned_tied}
use Rattle.std.specs.BTreeSet.{insert_key}
use Rattle.std.specs.FinSet as set
use Rattle.std.specs.FinSet.{contains, contains-from_list, contains-items, contains-remove}
use Rattle.std.proofs.lemmas.Bool.{eq-eqb, eqb-true, ne_eqb, or_left, or_right}
use Rattle.std.proofs.lemmas.List.Kept.{IsStrictlyIncreasing-filter}
use Rattle.std.proofs.lemmas.Map.Keys.{IsStrictlyIncreasing-from_sorted}
use Rattle.rh_edit.specs.Rising.{inserted_at_order, rising_keys}
use Rattle.rh_edit.proofs.RisingLemmas.{rising_is}
use Rattle.rh_edit.proofs.SetLemmas.{len-from_list, pos_of_contains}
use Rattle.rh_layout.specs.Layout.{Keys}
use Rattle.rh_combine.proofs.Meaning.{has-filter, holds, listed, same}

-- ---- they rise

above : (x k : ℕ) (ks : List ℕ) → nat_cmp x k ≡ Less → AllByRecursion (λ y. nat_cmp x y ≡ Less) ks → AllByRecursion (λ y. nat_cmp x y ≡ Less) (insert_key nat_cmp ks k)
above x k [] less h = (less, tt)
above x k (e ∷ es) less h =
    elim (nat_cmp k e) as (λ r. AllByRecursion (λ y. nat_cmp x y ≡ Less) (match_ordering r (k ∷ e ∷ es) (e ∷ es) (e ∷ insert_key nat_cmp es k))) [
      | Less ↦ (less, h)
      | Equal ↦ h
      | Greater ↦ (h.0, above x k es less h.1)
    ]

further : (k e : ℕ) (es : List ℕ) → nat_cmp k e ≡ Less → AllByRecursion (λ y. nat_cmp e y ≡ Less) es → AllByRecursion (λ y. nat_cmp k y ≡ Less) es
further k e [] less h = tt
further k e (y ∷ ys) less h = (nat_cmp_total.trans k e y less h.0, further k e ys less h.1)

placed_rises : (k e : ℕ) (es : List ℕ) (r : Ordering) → nat_cmp k e ≡ r → AllByRecursion (λ y. nat_cmp e y ≡ Less) es → IsStrictlySortedBy nat_cmp es → IsStrictlySortedBy nat_cmp (insert_key nat_cmp es k)
    → IsStrictlySortedBy nat_cmp (match_ordering r (k ∷ e ∷ es) (e ∷ es) (e ∷ insert_key nat_cmp es k))
unfolding IsStrictlySortedBy
placed_rises k e es Less is first others later = ((is, further k e es is first), (first, others))
placed_rises k e es Equal is first others later = (first, others)
placed_rises k e es Greater is first others later = (above e k es (nat_cmp_total.antisymm e k ∙ ap ordering_reverse is) first, later)

one_more_rises : (ks : List ℕ) (k : ℕ) → IsStrictlySortedBy nat_cmp ks → IsStrictlySortedBy nat_cmp (insert_key nat_cmp ks k)
unfolding IsStrictlySortedBy
one_more_rises [] k h = (tt, tt)
one_more_rises (e ∷ es) k h = placed_rises k e es (nat_cmp k e) refl h.0 h.1 (one_more_rises es k h.1)

all_rise : (ks : List ℕ) → IsStrictlySortedBy nat_cmp (inserted_at_order ks)
unfolding IsStrictlySortedBy
all_rise [] = tt
all_rise (k ∷ ks) = one_more_rises (inserted_at_order ks) k (all_rise ks)

pub rising_rise : (S : Keys) → IsStrictlySortedBy nat_cmp (rising_keys S)
unfolding rising_keys
rising_rise S = all_rise (set.items S)

pub rising_increase : (S : Keys) → IsStrictlyIncreasing (rising_keys S)
rising_increase S = IsStrictlyIncreasing-from_sorted (rising_keys S) (rising_rise S)

-- ---- they are the set's

twice : (a b : Bool) → (a || b) ≡ (a || (a || b))
twice true b = refl
twice false b = refl

other_way : (a b c : Bool) → (a || (b || c)) ≡ (b || (a || c))
other_way true true c = refl
other_way true false c = refl
other_way false true c = refl
other_way false false c = refl

tied : (x y : ℕ) → nat_cmp x y ≡ Equal → x ≡ y
tied x y is = subst (λ r. MatchOrdering r (x < y) (x ≡ y) (y < x)) is (ranks x y)

placed_there : (q k e : ℕ) (es : List ℕ) (r : Ordering) → nat_cmp k e ≡ r → list_any (eq_by_cmp nat_cmp q) (insert_key nat_cmp es k) ≡ (eq_by_cmp nat_cmp q k || list_any (eq_by_cmp nat_cmp q) es)
    → list_any (eq_by_cmp nat_cmp q) (match_ordering r (k ∷ e ∷ es) (e ∷ es) (e ∷ insert_key nat_cmp es k)) ≡ (eq_by_cmp nat_cmp q k || list_any (eq_by_cmp nat_cmp q) (e ∷ es))
placed_there q k e es Less is later = refl
placed_there q k e es Equal is later =
    subst (λ m. (eq_by_cmp nat_cmp q m || list_any (eq_by_cmp nat_cmp q) es) ≡ (eq_by_cmp nat_cmp q k || (eq_by_cmp nat_cmp q m || list_any (eq_by_cmp nat_cmp q) es))) (tied k e is)
    (twice (eq_by_cmp nat_cmp q k) (list_any (eq_by_cmp nat_cmp q) es))
placed_there q k e es Greater is later =
    ap (λ b. eq_by_cmp nat_cmp q e || b) later ∙ other_way (eq_by_cmp nat_cmp q e) (eq_by_cmp nat_cmp q k) (list_any (eq_by_cmp nat_cmp q) es)

one_more_there : (q : ℕ) (ks : List ℕ) (k : ℕ) → list_any (eq_by_cmp nat_cmp q) (insert_key nat_cmp ks k) ≡ (eq_by_cmp nat_cmp q k || list_any (eq_by_cmp nat_cmp q) ks)
one_more_there q [] k = refl
one_more_there q (e ∷ es) k = placed_there q k e es (nat_cmp k e) refl (one_more_there q es k)

all_there : (q : ℕ) (ks : List ℕ) → list_any (eq_by_cmp nat_cmp q) (inserted_at_order ks) ≡ list_any (eq_by_cmp nat_cmp q) ks
all_there q [] = refl
all_there q (k ∷ ks) = one_more_there q (inserted_at_order ks) k ∙ ap (λ b. eq_by_cmp nat_cmp q k || b) (all_there q ks)

pub rising_there : (S : Keys) (q : ℕ) → list_any (eq_by_cmp nat_cmp q) (rising_keys S) ≡ contains S q
unfolding rising_keys
rising_there S q = all_there q (set.items S) ∙ sym (contains-items S q)

pub of_rising : (S : Keys) → set.from_list (rising_keys S) ≡ S
of_rising S = same _ _ (λ q. contains-from_list nat_cmp_total (rising_keys S) q ∙ rising_there S q)

-- ---- those that pass a test, in rising order

pub rising_of_part : (passes : ℕ → Bool) (S : Keys) → rising_keys (set.retain S passes) ≡ filter passes (rising_keys S)
rising_of_part passes S =
    let keys = rising_keys S in
    sym
    (rising_is (set.retain S passes) (filter passes keys) (IsStrictlyIncreasing-filter passes keys (rising_increase S))
    (same _ _ (λ q.
    listed (filter passes keys) q ∙ has-filter passes keys q
    ∙ ap (λ b. b && passes q) (sym (listed keys q) ∙ ap (λ (T : Keys). contains T q) (of_rising S))
    ∙ sym (holds passes S q))))

-- ---- a part has no more

pub one_number : (x y : ℕ) → eq_by_cmp nat_cmp x y ≡ true → x ≡ y
one_number x y e = eqb-true x y (sym (unsigned_tied x y) ∙ e)

pub itself : (x : ℕ) → eq_by_cmp nat_cmp x x ≡ true
itself x = unsigned_tied x x ∙ eq-eqb x x refl

apart : (x q : ℕ) → x < q → eq_by_cmp nat_cmp q x ≡ false
apart x q less = unsigned_tied q x ∙ ne_eqb q x (λ is. omega (arith, is, less))

from_or : (a b : Bool) → (a || b) ≡ true → (a ≡ true) ⊎ (b ≡ true)
from_or true b e = inl refl
from_or false b e = inr e

less_of : (x y : ℕ) → nat_cmp x y ≡ Less → x < y
less_of x y h = subst (λ r. MatchOrdering r (x < y) (x ≡ y) (y < x)) h (ranks x y)

pub above_all : (x q : ℕ) (ys : List ℕ) → AllByRecursion (λ y. nat_cmp x y ≡ Less) ys → list_any (eq_by_cmp nat_cmp q) ys ≡ true → x < q
above_all x q [] h there = absurd_of there
  where
    absurd_of : false ≡ true → x < q
    absurd_of e = (cc)
above_all x q (y ∷ ys) h there =
    elim (from_or (eq_by_cmp nat_cmp q y) (list_any (eq_by_cmp nat_cmp q) ys) there) [
      | inl this ↦ omega (arith, less_of x y h.0, one_number q y this)
      | inr later ↦ above_all x q ys h.1 later
    ]

len_of_listed : (xs : List ℕ) (T : Keys) → IsStrictlySortedBy nat_cmp xs → ((q : ℕ) → list_any (eq_by_cmp nat_cmp q) xs ≡ true → contains T q ≡ true) → length xs ≤ set.len T
unfolding IsStrictlySortedBy
len_of_listed [] T h there = omega arith
len_of_listed (x ∷ xs) T h there =
    let this : contains T x ≡ true = there x (or_left _ _ (itself x)) in
    let less : set.len (set.remove T x) ≡ set.len T - 1 = set.len-remove nat_cmp_total T x ∙ ap (λ b. cond b (set.len T - 1) (set.len T)) this in
    let others : length xs ≤ set.len (set.remove T x) = len_of_listed xs (set.remove T x) h.1 (λ q later. still q later) in
    omega (arith, less, others, pos_of_contains T x this)
  where
    still : (q : ℕ) → list_any (eq_by_cmp nat_cmp q) xs ≡ true → contains (set.remove T x) q ≡ true
    still q later =
        contains-remove nat_cmp_total T x q
        ∙ ap (λ b. not b && contains T q) (apart x q (above_all x q xs h.0 later))
        ∙ there q (or_right (eq_by_cmp nat_cmp q x) _ later)

pub len-rising : (S : Keys) → set.len S ≤ length (rising_keys S)
len-rising S = omega (arith, ap set.len (of_rising S), len-from_list (rising_keys S))

-- each number of the first set is one of the second
abbrev pub IsPart : Keys → Keys → Type 0
IsPart S T = (q : ℕ) → contains S q ≡ true → contains T q ≡ true

pub len-part : (S T : Keys) → IsPart S T → set.len S ≤ set.len T
len-part S T part =
    let listed : length (rising_keys S) ≤ set.len T = len_of_listed (rising_keys S) T (rising_rise S) (λ q there. part q (sym (rising_there S q) ∙ there)) in
    omega (arith, len-rising S, listed)
