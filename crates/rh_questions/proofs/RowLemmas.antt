-- Rows of numbers: one more, those of one list, and what they are of all lists.
use Rattle.std.proofs.Common.{◌≡◌, ◌∙◌, ap, sym, subst, refl, ℕ, zero, suc, ◌+◌, ◌^◌, ◌<◌, ◌≤◌, inl, inr, arith, lit<, Bool, true, false, cond, List, [], ◌∷◌, ◌++◌, drop, length, take, get_or}
use Rattle.std.specs.Prelude.{All, filter, map, slice_index_or, ◌||◌, ◌==◌, nat_lt}
use Rattle.std.specs.List.{AllByRecursion, Contains, list_any}
use Rattle.std.specs.List.Sorted.{IsStrictlyIncreasing, IsStrictlySortedBy}
use Rattle.std.specs.Ordering.{MatchOrdering, nat_cmp}
use Rattle.std.specs.declared.cmp.Ordering.TheVariants.{Less}
use Rattle.std.specs.Cmp.{ranks}
use Rattle.std.proofs.lemmas.Bool.{cases_Bool, eq-eqb, eqb-true, lt-ltb, ne_eqb}
use Rattle.std.proofs.lemmas.Nat.{pow_pos}
use Rattle.std.proofs.Math.Nat.{pow-le-pow_right}
use Rattle.std.proofs.lemmas.List.{length-map, length-take, map-append, take-append-drop, take_more}
use Rattle.std.proofs.lemmas.List.Elements.{filter-append}
use Rattle.std.proofs.lemmas.List.Folds.{Any-from_list_any, list_any-from_Any}
use Rattle.std.proofs.lemmas.List.Sums.{sum_by-cons, sum_by_push}
use Rattle.std.proofs.lemmas.Map.Keys.{sorted_from_strictly_increasing}
use Rattle.rh_layout.specs.Key.{IsKey}
use Rattle.rh_combine.specs.Combine.{answer, has, meant}
use Rattle.rh_combine.specs.declared.how.How.TheVariants.{Union}
use Rattle.rh_combine.proofs.Meaning.{listed, same, stands_is}
use Rattle.rh_edit.proofs.RisingLemmas.{rising_is}
use Rattle.rh_questions.specs.declared.rows.Row.{Row}
use Rattle.rh_questions.specs.Rows.{AreNumbersOf, AreRows, Rise, coded, lists_of, row_in}
use Rattle.rh_questions.specs.Selections.{row_of}
use Rattle.rh_questions.proofs.CodeLemmas.{coded-append, coded_fits}

-- ---- one row more

pub one_more : (rows : List Row) (row : Row) (k : ℕ) → lists_of (rows ++ row ∷ []) k ≡ lists_of rows k + cond (row.number == k) row.lists 0
one_more rows row k = sum_by_push (λ r. cond (r.number == k) r.lists 0) rows row

pub one_first : (row : Row) (rows : List Row) (k : ℕ) → lists_of (row ∷ rows) k ≡ cond (row.number == k) row.lists 0 + lists_of rows k
one_first row rows k = sum_by-cons (λ r. cond (r.number == k) r.lists 0) row rows

-- ---- lists that have the same numbers

contained : (keys : List ℕ) (k : ℕ) → has keys k ≡ true → Contains keys k
contained keys k there =
    let found = Any-from_list_any (λ y. y == k) keys there in
    (found.0, found.2, subst (λ y. slice_index_or keys found.0 y ≡ y) (eqb-true found.1 k found.4) found.3)

has_contained : (keys : List ℕ) (k : ℕ) → Contains keys k → has keys k ≡ true
has_contained keys k there = list_any-from_Any (λ y. y == k) keys (there.0, k, there.1, there.2, eq-eqb k k refl)

both_ways : (a b : Bool) → (a ≡ true → b ≡ true) → (b ≡ true → a ≡ true) → a ≡ b
both_ways true b there back = sym (there refl)
both_ways false true there back = back refl
both_ways false false there back = refl

pub same_has : (xs ys : List ℕ) (k : ℕ) → (Contains xs k → Contains ys k) → (Contains ys k → Contains xs k) → has xs k ≡ has ys k
same_has xs ys k there back =
    both_ways (has xs k) (has ys k) (λ h. has_contained ys k (there (contained xs k h))) (λ h. has_contained xs k (back (contained ys k h)))

-- ---- a number's row

less_of : (x y : ℕ) → nat_cmp x y ≡ Less → x < y
less_of x y h = subst (λ r. MatchOrdering r (x < y) (x ≡ y) (y < x)) h (ranks x y)

-- numbers above have no row of this one
none_above : (k : ℕ) (rows : List Row) → AllByRecursion (λ y. nat_cmp k y ≡ Less) (map (λ r. r.number) rows) → lists_of rows k ≡ 0
none_above k [] h = refl
none_above k (row ∷ rows) h =
    one_first row rows k
    ∙ (λ j. cond (ne_eqb row.number k (λ e. absurd (omega (arith, e, less_of k row.number h.0))) j) row.lists 0 + none_above k rows h.1 j)

-- each row has the lists of its number
own_lists : (rows : List Row) → IsStrictlySortedBy nat_cmp (map (λ r. r.number) rows) → All (λ r. lists_of rows r.number ≡ r.lists) rows
unfolding IsStrictlySortedBy
own_lists [] h i d inside = absurd (omega (arith, inside))
own_lists (row ∷ rows) h zero d inside =
    omega (arith, one_first row rows row.number, ap (λ b. cond b row.lists 0) (eq-eqb row.number row.number refl), none_above row.number rows h.0)
own_lists (row ∷ rows) h (suc i) d inside =
    let there : i < length rows = omega (arith, inside) in
    let later = own_lists rows h.1 i d there in
    let other : (row.number == (get_or rows i d).number) ≡ false = above row.number rows i d h.0 there in
    omega (arith, one_first row rows (get_or rows i d).number, ap (λ b. cond b row.lists 0) other, later)
  where
    above : (k : ℕ) (rows : List Row) (i : ℕ) (d : Row) → AllByRecursion (λ y. nat_cmp k y ≡ Less) (map (λ r. r.number) rows) → i < length rows → (k == (get_or rows i d).number) ≡ false
    above k [] i d h inside = absurd (omega (arith, inside))
    above k (row ∷ rows) zero d h inside = ne_eqb k row.number (λ e. absurd (omega (arith, e, less_of k row.number h.0)))
    above k (row ∷ rows) (suc i) d h inside = above k rows i d h.1 (omega (arith, inside))

pub own_lists_of : (rows : List Row) → Rise rows → All (λ r. lists_of rows r.number ≡ r.lists) rows
own_lists_of rows rise = own_lists rows (sorted_from_strictly_increasing (map (λ r. r.number) rows) rise.order)

-- a number has a row where it has lists
has_row : (rows : List Row) (k : ℕ) → All (λ r. 0 < r.lists) rows → has (map (λ r. r.number) rows) k ≡ nat_lt 0 (lists_of rows k)
has_row [] k some = refl
has_row (row ∷ rows) k some =
    let later : has (map (λ r. r.number) rows) k ≡ nat_lt 0 (lists_of rows k) = has_row rows k (λ i d inside. some (suc i) d (omega (arith, inside))) in
    elim (cases_Bool (row.number == k)) [
      | inl this ↦
          ap (λ b. b || has (map (λ r. r.number) rows) k) this
          ∙ sym (more (omega (arith, one_first row rows k, ap (λ b. cond b row.lists 0) this, some 0 row (omega arith))))
      | inr other ↦
          let same : lists_of rows k ≡ lists_of (row ∷ rows) k = omega (arith, one_first row rows k, ap (λ b. cond b row.lists 0) other) in
          ap (λ b. b || has (map (λ r. r.number) rows) k) other ∙ later ∙ ap (nat_lt 0) same
    ]
  where
    more : {n : ℕ} → 0 < n → nat_lt 0 n ≡ true
    more {n} h = lt-ltb 0 n h

-- ---- the rows of one list

module _ (bit : ℕ) where
  own_numbers : (numbers : List ℕ) → map (λ (r : Row). r.number) (map (row_in bit) numbers) ≡ numbers
  own_numbers [] = refl
  own_numbers (n ∷ numbers) = ap (λ ns. n ∷ ns) (own_numbers numbers)

  one_list : (numbers : List ℕ) (k : ℕ) → IsStrictlySortedBy nat_cmp numbers → lists_of (map (row_in bit) numbers) k ≡ cond (has numbers k) bit 0
  unfolding IsStrictlySortedBy
  one_list [] k h = refl
  one_list (n ∷ numbers) k h =
      elim (cases_Bool (n == k)) [
        | inl this ↦
            let same : n ≡ k = eqb-true n k this in
            let none : lists_of (map (row_in bit) numbers) k ≡ 0 =
            none_above k (map (row_in bit) numbers) (subst (λ ns. AllByRecursion (λ y. nat_cmp k y ≡ Less) ns) (sym (own_numbers numbers)) (subst (λ m. AllByRecursion (λ y. nat_cmp m y ≡ Less) numbers) same h.0)) in
            omega (arith, one_first (row_in bit n) (map (row_in bit) numbers) k, ap (λ b. cond b bit 0) this, none) ∙ sym (ap (λ b. cond (b || has numbers k) bit 0) this)
        | inr other ↦
            omega (arith, one_first (row_in bit n) (map (row_in bit) numbers) k, ap (λ b. cond b bit 0) other, one_list numbers k h.1) ∙ sym (ap (λ b. cond (b || has numbers k) bit 0) other)
      ]

  all_some : (numbers : List ℕ) → 0 < bit → All (λ (r : Row). 0 < r.lists) (map (row_in bit) numbers)
  all_some [] some i d inside = absurd (omega (arith, inside))
  all_some (n ∷ numbers) some zero d inside = some
  all_some (n ∷ numbers) some (suc i) d inside = all_some numbers some i d (omega (arith, inside))

  all_keys : (numbers : List ℕ) → All IsKey numbers → All (λ (r : Row). IsKey r.number) (map (row_in bit) numbers)
  all_keys [] all i d inside = absurd (omega (arith, inside))
  all_keys (n ∷ numbers) all zero d inside = all 0 n (omega arith)
  all_keys (n ∷ numbers) all (suc i) d inside = all_keys numbers (λ j e here. all (suc j) e (omega (arith, here))) i d (omega (arith, inside))

  pub rows_of_one : (keys numbers : List ℕ) → 0 < bit → AreNumbersOf keys numbers → AreRows (λ k. cond (has keys k) bit 0) (map (row_in bit) numbers)
  rows_of_one keys numbers some are = record {
    rise = record {
      order = subst IsStrictlyIncreasing (sym (own_numbers numbers)) are.order;
      in_range = all_keys numbers are.in_range;
      some = all_some numbers some;
    };
    each = λ k. one_list numbers k (sorted_from_strictly_increasing numbers are.order) ∙ ap (λ b. cond b bit 0) (are.same k);
  }

-- ---- the rows of some lists and of the others

module _ {X : Type 0} (f : X → List ℕ) (xs : List X) (half place : ℕ) (inside : half ≤ length xs) where
  pub both_coded : (k : ℕ) → coded place (row_of (map f (take half xs)) k) + coded (place + half) (row_of (map f (drop half xs)) k) ≡ coded place (row_of (map f xs) k)
  both_coded k =
      let many : length (row_of (map f (take half xs)) k) ≡ half = omega (arith, length-map (map f (take half xs)) (λ keys. has keys k), length-map (take half xs) f, length-take half xs, inside) in
      ap (λ n. coded place (row_of (map f (take half xs)) k) + coded (place + n) (row_of (map f (drop half xs)) k)) (sym many)
      ∙ sym (coded-append (row_of (map f (take half xs)) k) (row_of (map f (drop half xs)) k) place)
      ∙ ap (coded place)
      (sym (map-append (λ keys. has keys k) (map f (take half xs)) (map f (drop half xs)))
      ∙ ap (λ lists. row_of lists k) (sym (map-append f (take half xs) (drop half xs)) ∙ ap (map f) (take-append-drop half xs)))

pub coded_few : {X : Type 0} (f : X → List ℕ) (xs : List X) (place k : ℕ) → place + length xs ≤ 64 → coded place (row_of (map f xs) k) < 2 ^ 64
coded_few f xs place k few =
    let many : length (row_of (map f xs) k) ≡ length xs = omega (arith, length-map (map f xs) (λ keys. has keys k), length-map xs f) in
    let fits = coded_fits (row_of (map f xs) k) place in
    let within : place + length (row_of (map f xs) k) ≤ 64 = omega (arith, many, few) in
    let last : 2 ^ (place + length (row_of (map f xs) k)) ≤ 2 ^ 64 = pow-le-pow_right (lit< tt) within in
    omega (arith, fits, last, pow_pos place)

-- one row more is gone through
pub one_chosen : (test : ℕ → Bool) (rows : List Row) (i : ℕ) (d : Row) → i < length rows
    → filter test (map (λ r. r.number) (take (i + 1) rows)) ≡ filter test (map (λ r. r.number) (take i rows)) ++ cond (test (get_or rows i d).number) ((get_or rows i d).number ∷ []) []
one_chosen test rows i d inside =
    ap (λ rs. filter test (map (λ (r : Row). r.number) rs)) (take_more rows i d inside)
    ∙ ap (filter test) (map-append (λ (r : Row). r.number) (take i rows) (get_or rows i d ∷ []))
    ∙ filter-append test (map (λ (r : Row). r.number) (take i rows)) ((get_or rows i d).number ∷ [])

-- ---- the rows of all lists

skip : (b : Bool) (m n : ℕ) → b ≡ false → cond b m 0 + n ≡ n
skip b m n none = omega (arith, ap (λ b. cond b m 0) none)

some_digit : (lists : List (List ℕ)) (k digit : ℕ) → nat_lt 0 (coded digit (row_of lists k)) ≡ list_any (λ keys. has keys k) lists
some_digit [] k digit = refl
some_digit (keys ∷ others) k digit =
    elim (cases_Bool (has keys k)) [
      | inl there ↦
          ap (λ b. nat_lt 0 (cond b (2 ^ digit) 0 + coded (digit + 1) (row_of others k))) there
          ∙ lt-ltb 0 _ (omega (arith, pow_pos digit))
          ∙ sym (ap (λ b. b || list_any (λ keys. has keys k) others) there)
      | inr not_there ↦
          ap (nat_lt 0) (skip (has keys k) (2 ^ digit) (coded (digit + 1) (row_of others k)) not_there)
          ∙ some_digit others k (digit + 1)
          ∙ sym (ap (λ b. b || list_any (λ keys. has keys k) others) not_there)
    ]

module _ (lists : List (List ℕ)) (rows : List Row) (are : AreRows (λ k. coded 0 (row_of lists k)) rows) where
  -- there is one for each number of the lists
  pub numbers_are : map (λ r. r.number) rows ≡ answer Union lists
  numbers_are =
      rising_is (meant Union lists) (map (λ r. r.number) rows) are.rise.order
      (same _ _ (λ k.
      listed (map (λ r. r.number) rows) k ∙ has_row rows k are.rise.some ∙ ap (nat_lt 0) (are.each k) ∙ some_digit lists k 0
      ∙ sym (stands_is k Union lists)))

  -- with its row as a number
  pub lists_are : All (λ r. r.lists ≡ coded 0 (row_of lists r.number)) rows
  lists_are i d inside = sym (own_lists_of rows are.rise i d inside) ∙ are.each (get_or rows i d).number
