-- Rows of some lists and of others, row by row.
use Rattle.std.proofs.Common.{◌≡◌, ◌∙◌, ap, sym, subst, refl, ℕ, ◌+◌, ◌-◌, ◌^◌, ◌<◌, ◌≤◌, ◌⊎◌, inl, inr, arith, Bool, true, false, cond, List, [], ◌∷◌, ◌++◌, length, take, get_or}
use Rattle.std.specs.Prelude.{map, min, slice_index, ◌==◌}
use Rattle.std.specs.List.Sorted.{IsStrictlyIncreasing}
use Rattle.std.proofs.lemmas.Bool.{cases_Bool, cases_lt, eq-eqb, eqb-true}
use Rattle.std.proofs.lemmas.List.{get_or-map, get_or_append_left, get_or_push, length-map, length_push, map-append, take_all, take_more}
use Rattle.std.proofs.lemmas.List.Elements.{All-push}
use Rattle.rh_layout.specs.Key.{IsKey}
use Rattle.rh_questions.specs.declared.rows.Row.{Row}
use Rattle.rh_questions.specs.Rows.{IsHead, Rise, lists_of}
use Rattle.rh_questions.proofs.RowLemmas.{one_more, own_lists_of}

number_at : (rows : List Row) (i : ℕ) (d : Row) → i < length rows → slice_index (map (λ (r : Row). r.number) rows) i ≡ (get_or rows i d).number
number_at rows i d inside = get_or-map (λ (r : Row). r.number) rows i d 0 inside

adds : (i j : ℕ) (b : Bool) → j ≡ i + cond b 1 0 → b ≡ true → j ≡ i + 1
adds i j b next met = next ∙ ap (λ b. i + cond b 1 0) met

stays : (i j : ℕ) (b : Bool) → j ≡ i + cond b 1 0 → b ≡ false → j ≡ i
stays i j b next other =
    let still : i + 0 ≡ i = omega arith in
    next ∙ ap (λ b. i + cond b 1 0) other ∙ still

-- where the next row is met there is one
met_inside : (rows : List Row) (i : ℕ) (head : Row) → IsHead rows i head → (number : ℕ) → number < 2 ^ 64 - 1 → (head.number == number) ≡ true → i < length rows
met_inside rows i head is number low met =
    elim (cases_lt i (length rows)) [
      | inl here ↦ here
      | inr behind ↦ absurd (omega (arith, (is.behind behind).0, eqb-true head.number number met, low))
    ]

-- ---- the front of some rows, where its next row is met or not

module _ (rows : List Row) (rise : Rise rows) (i : ℕ) (inside : i ≤ length rows) (head : Row) (is : IsHead rows i head) (number : ℕ) (low : number < 2 ^ 64 - 1) where
  there : (head.number == number) ≡ true → i < length rows
  there = met_inside rows i head is number low

  pub inside_then : (j : ℕ) → j ≡ i + cond (head.number == number) 1 0 → j ≤ length rows
  inside_then j next =
      elim (cases_Bool (head.number == number)) [
        | inl met ↦ omega (arith, adds i j (head.number == number) next met, there met)
        | inr other ↦ omega (arith, stays i j (head.number == number) next other, inside)
      ]

  -- its lists are told of its number alone
  front_then : (j : ℕ) → j ≡ i + cond (head.number == number) 1 0 → (k : ℕ) → lists_of (take j rows) k ≡ lists_of (take i rows) k + cond (number == k) (cond (head.number == number) head.lists 0) 0
  front_then j next k =
      elim (cases_Bool (head.number == number)) [
        | inl met ↦
            let more : j ≡ i + 1 = adds i j (head.number == number) next met in
            ap (λ n. lists_of (take n rows) k) more
            ∙ ap (λ rs. lists_of rs k) (take_more rows i head (there met))
            ∙ one_more (take i rows) (get_or rows i head) k
            ∙ ap (λ (r : Row). lists_of (take i rows) k + cond (r.number == k) r.lists 0) (sym (is.there (there met) head))
            ∙ ap (λ n. lists_of (take i rows) k + cond (n == k) head.lists 0) (eqb-true head.number number met)
            ∙ sym (ap (λ b. lists_of (take i rows) k + cond (number == k) (cond b head.lists 0) 0) met)
        | inr other ↦
            let still : j ≡ i = stays i j (head.number == number) next other in
            ap (λ n. lists_of (take n rows) k) still
            ∙ nothing (number == k)
            ∙ sym (ap (λ b. lists_of (take i rows) k + cond (number == k) (cond b head.lists 0) 0) other)
      ]
    where
      nothing : (b : Bool) → lists_of (take i rows) k ≡ lists_of (take i rows) k + cond b 0 0
      nothing true = omega arith
      nothing false = omega arith

  -- numbers below the next row, and this one, are below the row that is next then
  pub below_then : number ≤ head.number → (j : ℕ) → j ≡ i + cond (head.number == number) 1 0 → (d : Row) → j < length rows → number < (get_or rows j d).number
  below_then least j next d within =
      elim (cases_Bool (head.number == number)) [
        | inl met ↦
            let more : j ≡ i + 1 = adds i j (head.number == number) next met in
            let after : i + 1 < length rows = omega (arith, more, within) in
            let same : number ≡ (get_or rows i d).number = sym (eqb-true head.number number met) ∙ ap (λ (r : Row). r.number) (is.there (there met) d) in
            omega (arith, same, rises rows rise i d after, ap (λ n. (get_or rows n d).number) more)
        | inr other ↦
            let still : j ≡ i = stays i j (head.number == number) next other in
            let here : i < length rows = omega (arith, still, within) in
            let apart : (head.number ≡ number) → ⊥ = λ e. two_ways (sym (eq-eqb head.number number e) ∙ other) in
            omega (arith, least, apart, ap (λ (r : Row). r.number) (is.there here d), ap (λ n. (get_or rows n d).number) still)
      ]
    where
      two_ways : true ≡ false → ⊥
      two_ways e = (cc)

      rises : (rows : List Row) → Rise rows → (i : ℕ) (d : Row) → i + 1 < length rows → (get_or rows i d).number < (get_or rows (i + 1) d).number
      rises rows rise i d after =
          omega (arith, rise.order i (omega (arith, length-map rows (λ (r : Row). r.number), after)), number_at rows i d (omega (arith, after)), number_at rows (i + 1) d after)

-- ---- all rows so far, and one more

increasing_push : (xs : List ℕ) (y : ℕ) → IsStrictlyIncreasing xs → (0 < length xs → slice_index xs (length xs - 1) < y) → IsStrictlyIncreasing (xs ++ y ∷ [])
increasing_push xs y rise above k inside =
    let there : k + 1 < length xs + 1 = omega (arith, length_push xs y, inside) in
    elim (cases_lt (k + 1) (length xs)) [
      | inl before ↦ omega (arith, rise k before, get_or_append_left xs (y ∷ []) 0 k (omega (arith, before)), get_or_append_left xs (y ∷ []) 0 (k + 1) before)
      | inr behind ↦
          let last : k + 1 ≡ length xs = omega (arith, there, behind) in
          omega (arith, above (omega (arith, last)), ap (slice_index xs) (sub last), get_or_append_left xs (y ∷ []) 0 k (omega (arith, last)), get_or_push xs y 0 (k + 1) (sym last))
    ]
  where
    sub : {k n : ℕ} → k + 1 ≡ n → n - 1 ≡ k
    sub {k} {n} e = omega (arith, e)

module _ (all : List Row) (rise : Rise all) (row : Row) (key : IsKey row.number) (some : 0 < row.lists) (above : (d : Row) → 0 < length all → (get_or all (length all - 1) d).number < row.number) where
  pub rise_more : Rise (all ++ row ∷ [])
  rise_more = record {
    order = subst IsStrictlyIncreasing (sym (map-append (λ (r : Row). r.number) all (row ∷ [])))
        (increasing_push (map (λ (r : Row). r.number) all) row.number rise.order (λ more.
        let many = length-map all (λ (r : Row). r.number) in
        let filled : 0 < length all = omega (arith, many, more) in
        omega (arith, above row filled, number_at all (length all - 1) row (omega (arith, filled)), ap (λ n. slice_index (map (λ (r : Row). r.number) all) (n - 1)) many)));
    in_range = All-push (λ (r : Row). IsKey r.number) all row rise.in_range key;
    some = All-push (λ (r : Row). 0 < r.lists) all row rise.some some;
  }

-- ---- so many rows of both are merged

pub record IsMerged (some others : List Row) (i j : ℕ) (all : List Row) : Type 0 where
  pub inside_some : i ≤ length some
  pub inside_others : j ≤ length others
  pub rise : Rise all
  pub each : (k : ℕ) → lists_of all k ≡ lists_of (take i some) k + lists_of (take j others) k
  pub below_some : (d : Row) → 0 < length all → i < length some → (get_or all (length all - 1) d).number < (get_or some i d).number
  pub below_others : (d : Row) → 0 < length all → j < length others → (get_or all (length all - 1) d).number < (get_or others j d).number

pub none_merged : (some others : List Row) → IsMerged some others 0 0 []
none_merged some others = record {
  inside_some = omega arith;
  inside_others = omega arith;
  rise = record {
    order = λ k inside. absurd (omega (arith, inside));
    in_range = λ i d inside. absurd (omega (arith, inside));
    some = λ i d inside. absurd (omega (arith, inside));
  };
  each = λ k. refl;
  below_some = λ d filled. absurd (omega (arith, filled));
  below_others = λ d filled. absurd (omega (arith, filled));
}

pub all_merged : (some others : List Row) (i j : ℕ) (all : List Row) → IsMerged some others i j all → length some ≤ i → length others ≤ j → (k : ℕ) → lists_of all k ≡ lists_of some k + lists_of others k
all_merged some others i j all is end_some end_others k =
    is.each k ∙ (λ e. lists_of (take_all i some end_some e) k + lists_of (take_all j others end_others e) k)

-- ---- one more

-- the row of a number that is met is one of the rows, with all its lists
module _ (rows : List Row) (rise : Rise rows) (i : ℕ) (head : Row) (is : IsHead rows i head) (number : ℕ) (key : IsKey number) where
  met_there : (head.number == number) ≡ true → i < length rows
  met_there = met_inside rows i head is number (omega (arith, key))

  pub met_lists : (head.number == number) ≡ true → (0 < head.lists) × (head.lists ≡ lists_of rows number)
  met_lists met =
      let here : i < length rows = met_there met in (
        subst (λ (r : Row). 0 < r.lists) (sym (is.there here head)) (rise.some i head here),
        ap (λ (r : Row). r.lists) (is.there here head) ∙ sym (own_lists_of rows rise i head here)
            ∙ ap (lists_of rows) (sym (ap (λ (r : Row). r.number) (is.there here head)) ∙ eqb-true head.number number met),
      )

  pub lists_few : cond (head.number == number) head.lists 0 ≤ lists_of rows number
  lists_few =
      elim (cases_Bool (head.number == number)) [
        | inl met ↦ omega (arith, ap (λ b. cond b head.lists 0) met, (met_lists met).1)
        | inr other ↦ omega (arith, ap (λ b. cond b head.lists 0) other)
      ]

module _ (some others : List Row) (rise_some : Rise some) (rise_others : Rise others) (i j : ℕ) (all : List Row) (is : IsMerged some others i j all) (left : (i < length some) ⊎ (j < length others))
    (first second : Row) (is_first : IsHead some i first) (is_second : IsHead others j second) (number : ℕ) (least : number ≡ min first.number second.number) where
  -- the next number is a key
  head_key : (rows : List Row) → Rise rows → (i : ℕ) (row : Row) → IsHead rows i row → i < length rows → IsKey row.number
  head_key rows rise i row is inside = subst (λ (r : Row). IsKey r.number) (sym (is.there inside row)) (rise.in_range i row inside)

  pub next_key : IsKey number
  next_key = elim left [
    | inl here ↦ omega (arith, least, head_key some rise_some i first is_first here)
    | inr here ↦ omega (arith, least, head_key others rise_others j second is_second here)
  ]

  pub next_fits : ((k : ℕ) → lists_of some k + lists_of others k < 2 ^ 64) → (m n : ℕ) → m ≡ cond (first.number == number) first.lists 0 → n ≡ cond (second.number == number) second.lists 0 → m + n < 2 ^ 64
  next_fits fits m n mine theirs =
      omega (arith, mine, theirs, fits number, lists_few some rise_some i first is_first number next_key, lists_few others rise_others j second is_second number next_key)

  next_some : 0 < cond (first.number == number) first.lists 0 + cond (second.number == number) second.lists 0
  next_some =
      elim (cases_lt second.number first.number) [
        | inl before ↦
            let met : (second.number == number) ≡ true = eq-eqb second.number number (omega (arith, least, before)) in
            omega (arith, ap (λ b. cond b second.lists 0) met, (met_lists others rise_others j second is_second number next_key met).0)
        | inr behind ↦
            let met : (first.number == number) ≡ true = eq-eqb first.number number (omega (arith, least, behind)) in
            omega (arith, ap (λ b. cond b first.lists 0) met, (met_lists some rise_some i first is_first number next_key met).0)
      ]

  next_above : (d : Row) → 0 < length all → (get_or all (length all - 1) d).number < number
  next_above d filled =
      elim (cases_lt i (length some)) [
        | inl here ↦
            elim (cases_lt j (length others)) [
              | inl there ↦ omega (arith, least, is.below_some d filled here, is.below_others d filled there, ap (λ (r : Row). r.number) (is_first.there here d), ap (λ (r : Row). r.number) (is_second.there there d))
              | inr behind ↦ omega (arith, least, next_key, is.below_some d filled here, ap (λ (r : Row). r.number) (is_first.there here d), (is_second.behind behind).0)
            ]
        | inr behind ↦
            elim left [
              | inl here ↦ absurd (omega (arith, here, behind))
              | inr there ↦ omega (arith, least, next_key, is.below_others d filled there, ap (λ (r : Row). r.number) (is_second.there there d), (is_first.behind behind).0)
            ]
      ]

  pub one_merged : (row : Row) → row.number ≡ number → row.lists ≡ cond (first.number == number) first.lists 0 + cond (second.number == number) second.lists 0
      → (i' j' : ℕ) → i' ≡ i + cond (first.number == number) 1 0 → j' ≡ j + cond (second.number == number) 1 0 → IsMerged some others i' j' (all ++ row ∷ [])
  one_merged row here lists i' j' next_i next_j =
      let low : number < 2 ^ 64 - 1 = omega (arith, next_key) in
      let last : (d : Row) → (get_or (all ++ row ∷ []) (length (all ++ row ∷ []) - 1) d).number ≡ number = λ d.
      ap (λ (r : Row). r.number) (get_or_push all row d (length (all ++ row ∷ []) - 1) (omega (arith, length_push all row))) ∙ here in
      record {
        inside_some = inside_then some rise_some i is.inside_some first is_first number low i' next_i;
        inside_others = inside_then others rise_others j is.inside_others second is_second number low j' next_j;
        rise = rise_more all is.rise row (subst IsKey (sym here) next_key) (omega (arith, lists, next_some)) (λ d filled. omega (arith, here, next_above d filled));
        each = λ k.
            let a = front_then some rise_some i is.inside_some first is_first number low i' next_i k in
            let b = front_then others rise_others j is.inside_others second is_second number low j' next_j k in
            one_more all row k ∙ sums (number == k) (lists_of all k) (lists_of (take i some) k) (lists_of (take j others) k) (lists_of (take i' some) k) (lists_of (take j' others) k)
            (cond (first.number == number) first.lists 0) (cond (second.number == number) second.lists 0) (cond (row.number == k) row.lists 0) (is.each k) a b (λ e. cond (here e == k) (lists e) 0);
        below_some = λ d filled inside. omega (arith, last d, below_then some rise_some i is.inside_some first is_first number low (omega (arith, least)) i' next_i d inside);
        below_others = λ d filled inside. omega (arith, last d, below_then others rise_others j is.inside_others second is_second number low (omega (arith, least)) j' next_j d inside);
      }
    where
      sums : (b : Bool) (a x y x' y' m n w : ℕ) → a ≡ x + y → x' ≡ x + cond b m 0 → y' ≡ y + cond b n 0 → w ≡ cond b (m + n) 0 → a + w ≡ x' + y'
      sums true a x y x' y' m n w before mine theirs is = omega (arith, before, mine, theirs, is)
      sums false a x y x' y' m n w before mine theirs is = omega (arith, before, mine, theirs, is)
