-- What comes of lists whose numbers stand in a range, and of the parts of the range.
use Rattle.std.proofs.Common.{◌≡◌, ◌∙◌, ap, sym, subst, refl, ℕ, zero, suc, ◌+◌, ◌-◌, ◌*◌, ◌^◌, ◌<◌, ◌≤◌, inl, inr, arith, Bool, true, false, List, [], ◌∷◌, ◌++◌, length, take, get_or}
use Rattle.std.specs.Prelude.{map, nat_lt, not, sum_by, ◌&&◌, ◌||◌, ◌==◌, All}
use Rattle.std.specs.List.{flat_map, list_any}
use Rattle.std.specs.List.Sorted.{IsStrictlySortedBy}
use Rattle.std.specs.Ordering.{eq_by_cmp, nat_cmp}
use Rattle.std.specs.FinSet as set
use Rattle.std.specs.FinSet.{contains}
use Rattle.std.proofs.Math.Nat.{add-mul}
use Rattle.std.proofs.lemmas.Bool.{cases_lt, le-ltb, lt-ltb, or_left, or_right}
use Rattle.std.proofs.lemmas.List.{map-append, take_more}
use Rattle.std.proofs.lemmas.List.Concat.{length-flat_map}
use Rattle.std.proofs.lemmas.List.Elements.{filter_passes}
use Rattle.std.proofs.lemmas.List.Folds.{list_any-append}
use Rattle.rh_edit.proofs.SetLemmas.{len-from_list}
use Rattle.rh_layout.specs.Key.{IsKey}
use Rattle.rh_layout.specs.declared.limits.TheConstants.{MAX_KEY}
use Rattle.rh_layout.specs.Layout.{Keys}
use Rattle.rh_combine.specs.declared.cut.Grid.{Grid}
use Rattle.rh_combine.specs.declared.how.How.{How}
use Rattle.rh_combine.specs.declared.how.How.TheVariants.{Union}
use Rattle.rh_layout.specs.Range.{stands, within}
use Rattle.rh_combine.specs.Combine.{AllWithin, answer, has, meant}
use Rattle.rh_combine.specs.Grid.{IsGrid, edge, in_part}
use Rattle.rh_combine.proofs.Meaning.{holds, listed, of_them, same, stands_is}
use Rattle.rh_combine.proofs.Rising.{above_all, itself, len-rising, rising_rise, rising_there}
use Rattle.rh_combine.proofs.RangeLaws.{answer_of, lists_within_all, of_all, of_two}

-- ---- a set of keys in a range has no more than the range

from_stands : (a c q : ℕ) → stands a c q ≡ true → (a ≤ q) × (q < c)
from_stands a c q there =
    elim (cases_lt q a) [
      | inl before ↦ absurd (two_ways (not_true (lt-ltb q a before) there))
      | inr above ↦
          elim (cases_lt q c) [
            | inl below ↦ (above, below)
            | inr past ↦ absurd (two_ways (and_false (le-ltb q c past) there))
          ]
    ]
  where
    two_ways : false ≡ true → ⊥
    two_ways e = (cc)

    not_true : nat_lt q a ≡ true → stands a c q ≡ true → false ≡ true
    not_true e there = sym (ap (λ t. not t && nat_lt q c) e) ∙ there

    none : (t : Bool) → (t && false) ≡ false
    none true = refl
    none false = refl

    and_false : nat_lt q c ≡ false → stands a c q ≡ true → false ≡ true
    and_false e there = sym (ap (λ t. not (nat_lt q a) && t) e ∙ none (not (nat_lt q a))) ∙ there

right_of : (a b : Bool) → (a && b) ≡ true → b ≡ true
right_of true b e = e
right_of false b e = (cc)

members_within : (a c : ℕ) (how : How) (lists : List (List ℕ)) → AllWithin a c lists → (q : ℕ) → contains (meant how lists) q ≡ true → (a ≤ q) × (q < c)
members_within a c how lists all q there =
    let S : Keys = meant how lists in
    let kept : set.retain S (stands a c) ≡ S = of_them (stands a c) how lists ∙ ap (meant how) (lists_within_all a c lists all) in
    let both : (contains S q && stands a c q) ≡ true = sym (holds (stands a c) S q) ∙ ap (λ (T : Keys). contains T q) kept ∙ there in
    from_stands a c q (right_of (contains S q) (stands a c q) both)

few_within : (c a : ℕ) (xs : List ℕ) → IsStrictlySortedBy nat_cmp xs → ((q : ℕ) → list_any (eq_by_cmp nat_cmp q) xs ≡ true → (a ≤ q) × (q < c)) → length xs ≤ c - a
unfolding IsStrictlySortedBy
few_within c a [] h inside = omega arith
few_within c a (x ∷ xs) h inside =
    let this : (a ≤ x) × (x < c) = inside x (or_left (eq_by_cmp nat_cmp x x) (list_any (eq_by_cmp nat_cmp x) xs) (itself x)) in
    let others : length xs ≤ c - (x + 1) = few_within c (x + 1) xs h.1 (λ q later. (omega (arith, above_all x q xs h.0 later), (inside q (or_right (eq_by_cmp nat_cmp q x) (list_any (eq_by_cmp nat_cmp q) xs) later)).1)) in
    omega (arith, this.0, this.1, others)

pub answer-within : (a c : ℕ) (how : How) (lists : List (List ℕ)) → AllWithin a c lists → length (answer how lists) ≤ c - a
answer-within a c how lists all = few_within c a (answer how lists) (rising_rise (meant how lists)) (λ q there. members_within a c how lists all q (sym (rising_there (meant how lists) q) ∙ there))

pub len-within : (a c : ℕ) (lists : List (List ℕ)) → AllWithin a c lists → set.len (meant Union lists) ≤ c - a
len-within a c lists all =
    omega (arith, len-rising (meant Union lists), answer-within a c Union lists all)

-- ---- and no more than there are numbers, repeats counted

module _ {X : Type 0} (f : X → List ℕ) where
  spread : (q : ℕ) (xs : List X) → list_any (λ keys. has keys q) (map f xs) ≡ has (flat_map f xs) q
  spread q [] = refl
  spread q (x ∷ xs) = ap (λ b. has (f x) q || b) (spread q xs) ∙ sym (list_any-append (λ y. y == q) (f x) (flat_map f xs))

  pub len-total : (xs : List X) → set.len (meant Union (map f xs)) ≤ sum_by (λ x. length (f x)) xs
  len-total xs =
      let all : meant Union (map f xs) ≡ set.from_list (flat_map f xs) = same _ _ (λ q. stands_is q Union (map f xs) ∙ spread q xs ∙ sym (listed (flat_map f xs) q)) in
      omega (arith, ap set.len all, len-from_list (flat_map f xs), length-flat_map f xs)

-- ---- the parts of a range

module _ (grid : Grid) (is : IsGrid grid) where
  pub edge-first : edge grid 0 ≡ grid.from
  edge-first = omega (arith, is.0)

  pub edge-last : edge grid grid.parts ≡ grid.to
  edge-last = omega (arith, is.2)

  next : (p : ℕ) → (p + 1) * 2 ^ grid.shift ≡ p * 2 ^ grid.shift + 1 * 2 ^ grid.shift
  next p = add-mul p 1 (2 ^ grid.shift)

  pub edge-above : (p : ℕ) → grid.from ≤ edge grid p
  edge-above p = omega (arith, is.0)

  pub edge-rises : (p : ℕ) → edge grid p ≤ edge grid (p + 1)
  edge-rises p = omega (arith, next p)

  pub edge-below : (p : ℕ) → edge grid p ≤ grid.to
  edge-below p = omega arith

  pub edge-narrow : (p : ℕ) → edge grid (p + 1) - edge grid p ≤ 2 ^ grid.shift
  edge-narrow p = omega (arith, next p)

pub within-none : (a : ℕ) (xs : List ℕ) → within a a xs ≡ []
within-none a [] = refl
within-none a (x ∷ xs) = rw (never (nat_lt x a)) (within-none a xs)
  where
    never : (t : Bool) → (not t && t) ≡ false
    never true = refl
    never false = refl

-- before the first part
pub none_yet : (grid : Grid) (xs : List ℕ) → IsGrid grid → [] ≡ within grid.from (edge grid 0) xs
none_yet grid xs is = sym (ap (λ n. within grid.from n xs) (edge-first grid is) ∙ within-none grid.from xs)

-- after one part more
pub part_more : (grid : Grid) (p : ℕ) (how : How) (lists there : List (List ℕ)) (out more new : List ℕ) → IsGrid grid → there ≡ map (in_part grid p) lists
    → out ≡ within grid.from (edge grid p) (answer how lists) → more ≡ answer how there → new ≡ out ++ more → new ≡ within grid.from (edge grid (p + 1)) (answer how lists)
part_more grid p how lists there out more new is cut before got after =
    let here : more ≡ in_part grid p (answer how lists) = got ∙ ap (answer how) cut ∙ answer_of (stands (edge grid p) (edge grid (p + 1))) how lists in
    after ∙ (λ i. before i ++ here i) ∙ sym (of_two grid.from (edge grid p) (edge grid (p + 1)) (edge-above grid is p) (edge-rises grid is p) how lists)

-- after the last part
pub all_parts : (grid : Grid) (how : How) (lists : List (List ℕ)) (out : List ℕ) (p : ℕ) → IsGrid grid → AllWithin grid.from grid.to lists → p ≡ grid.parts → out ≡ within grid.from (edge grid p) (answer how lists) → out ≡ answer how lists
all_parts grid how lists out p is all last got =
    got ∙ ap (λ n. within grid.from (edge grid n) (answer how lists)) last ∙ ap (λ n. within grid.from n (answer how lists)) (edge-last grid is) ∙ of_all grid.from grid.to how lists all

-- ---- the lists of a part

pub within_bounds : (a c : ℕ) (keys : List ℕ) → All (λ k. (a ≤ k) × (k < c)) (within a c keys)
within_bounds a c keys k d inside = from_stands a c _ (filter_passes (stands a c) keys k d inside)

each_within : (a c : ℕ) (lists : List (List ℕ)) → AllWithin a c (map (within a c) lists)
each_within a c [] k d inside = absurd (omega (arith, inside))
each_within a c (keys ∷ others) zero d inside = within_bounds a c keys
each_within a c (keys ∷ others) (suc k) d inside = each_within a c others k d (omega (arith, inside))

pub part_within : (grid : Grid) (p : ℕ) (lists there : List (List ℕ)) → there ≡ map (in_part grid p) lists → AllWithin (edge grid p) (edge grid (p + 1)) there
part_within grid p lists there is = subst (AllWithin (edge grid p) (edge grid (p + 1))) (sym is) (each_within (edge grid p) (edge grid (p + 1)) lists)

pub range_within : (a c : ℕ) (lists there : List (List ℕ)) → there ≡ map (within a c) lists → AllWithin a c there
range_within a c lists there is = subst (AllWithin a c) (sym is) (each_within a c lists)

-- numbers below a limit are keys
pub are_keys : {X : Type 0} (f : X → List ℕ) (a c : ℕ) (xs : List X) → c ≤ MAX_KEY + 1 → AllWithin a c (map f xs) → All (λ x. All IsKey (f x)) xs
are_keys f a c [] limit all i d inside = absurd (omega (arith, inside))
are_keys f a c (x ∷ xs) limit all zero d inside = λ k e there. omega (arith, limit, (all 0 [] (omega arith) k e there).1)
are_keys f a c (x ∷ xs) limit all (suc i) d inside = are_keys f a c xs limit (λ j e there. all (suc j) e (omega (arith, there))) i d (omega (arith, inside))

-- ---- one list more

pub list_more : {X Y : Type 0} (f : X → List ℕ) (g : Y → List ℕ) (xs : List X) (i : ℕ) (d : X) (done : List Y) (y : Y) → i < length xs → map g done ≡ map f (take i xs) → g y ≡ f (get_or xs i d) → map g (done ++ y ∷ []) ≡ map f (take (i + 1) xs)
list_more f g xs i d done y inside before is =
    map-append g done (y ∷ []) ∙ (λ j. before j ++ is j ∷ []) ∙ sym (ap (map f) (take_more xs i d inside) ∙ map-append f (take i xs) (get_or xs i d ∷ []))

-- ---- the extent of lists

pub one_within : {X : Type 0} (f : X → List ℕ) (a c : ℕ) (xs : List X) (i : ℕ) (d : X) → i < length xs → AllWithin a c (map f xs) → All (λ k. (a ≤ k) × (k < c)) (f (get_or xs i d))
one_within f a c [] i d inside all = absurd (omega (arith, inside))
one_within f a c (x ∷ xs) zero d inside all = all 0 [] (omega arith)
one_within f a c (x ∷ xs) (suc i) d inside all = one_within f a c xs i d (omega (arith, inside)) (λ j e there. all (suc j) e (omega (arith, there)))

each_of_both : (P : List ℕ → Type 0) (xs : List (List ℕ)) (y : List ℕ) → All P xs → P y → All P (xs ++ y ∷ [])
each_of_both P [] y before last zero d inside = last
each_of_both P [] y before last (suc k) d inside = absurd (omega (arith, inside))
each_of_both P (x ∷ xs) y before last zero d inside = before 0 [] (omega arith)
each_of_both P (x ∷ xs) y before last (suc k) d inside = each_of_both P xs y (λ j e there. before (suc j) e (omega (arith, there))) last k d (omega (arith, inside))

pub within_more : {X : Type 0} (f : X → List ℕ) (a c a' c' : ℕ) (xs : List X) (i : ℕ) (d : X) → i < length xs → AllWithin a c (map f (take i xs)) → All (λ k. (a' ≤ k) × (k < c')) (f (get_or xs i d)) → a' ≤ a → c ≤ c' → AllWithin a' c' (map f (take (i + 1) xs))
within_more f a c a' c' xs i d inside before last low high =
    let wider : AllWithin a' c' (map f (take i xs)) = λ j e there k g here. (omega (arith, low, (before j e there k g here).0), omega (arith, high, (before j e there k g here).1)) in
    subst (AllWithin a' c') (sym (ap (map f) (take_more xs i d inside) ∙ map-append f (take i xs) (get_or xs i d ∷ []))) (each_of_both (All (λ k. (a' ≤ k) × (k < c'))) (map f (take i xs)) (f (get_or xs i d)) wider last)

-- ---- what the work on a range needs

pub few_by_total : {X : Type 0} (f : X → List ℕ) (xs : List X) (limit n : ℕ) → n ≤ limit → (n ≤ limit → sum_by (λ x. length (f x)) xs ≡ n) → set.len (meant Union (map f xs)) ≤ n
few_by_total f xs limit n few total = omega (arith, len-total f xs, total few)

pub part_within_by : (grid : Grid) (p a c : ℕ) (lists there : List (List ℕ)) → a ≡ edge grid p → c ≡ edge grid (p + 1) → there ≡ map (in_part grid p) lists → AllWithin a c there
part_within_by grid p a c lists there first last is =
    subst (λ n. AllWithin n c there) (sym first) (subst (λ n. AllWithin (edge grid p) n there) (sym last) (part_within grid p lists there is))

pub all_parts_by : (grid : Grid) (a c : ℕ) (how : How) (lists : List (List ℕ)) (out : List ℕ) (p : ℕ) → IsGrid grid → grid.from ≡ a → grid.to ≡ c → AllWithin a c lists → p ≡ grid.parts → out ≡ within grid.from (edge grid p) (answer how lists) → out ≡ answer how lists
all_parts_by grid a c how lists out p is first last all end got =
    all_parts grid how lists out p is (subst (λ n. AllWithin n grid.to lists) (sym first) (subst (λ n. AllWithin a n lists) (sym last) all)) end got

-- ---- all keys

pub all_keys : {V : Type 0} (f : V → List ℕ) (xs : List V) → All (λ x. All IsKey (f x)) xs → AllWithin 0 (MAX_KEY + 1) (map f xs)
all_keys f [] all i d inside = absurd (omega (arith, inside))
all_keys f (x ∷ xs) all zero d inside = λ k e there. (omega arith, omega (arith, all 0 x (omega arith) k e there))
all_keys f (x ∷ xs) all (suc i) d inside = all_keys f xs (λ j e there. all (suc j) e (omega (arith, there))) i d (omega (arith, inside))
