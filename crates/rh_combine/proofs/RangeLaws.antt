-- What comes of the numbers of a range, and of two ranges one after the other.
use Rattle.std.proofs.Common.{◌≡◌, ◌∙◌, ap, sym, subst, refl, ℕ, suc, ◌<◌, ◌≤◌, inl, inr, arith, Bool, true, false, cond, List, [], ◌∷◌, ◌++◌}
use Rattle.std.specs.Prelude.{filter, map, nat_lt, not, ◌&&◌, All}
use Rattle.std.specs.List.{AllByRecursion}
use Rattle.std.specs.List.Sorted.{IsStrictlySortedBy}
use Rattle.std.specs.Ordering.{MatchOrdering, nat_cmp}
use Rattle.std.specs.declared.cmp.Ordering.TheVariants.{Less}
use Rattle.std.specs.Cmp.{ranks}
use Rattle.std.proofs.lemmas.Bool.{cases_lt, le-ltb, lt-ltb}
use Rattle.rh_edit.specs.Rising.{rising_keys}
use Rattle.rh_combine.specs.declared.how.How.{How}
use Rattle.rh_layout.specs.Range.{stands, within}
use Rattle.rh_combine.specs.Combine.{AllWithin, answer, meant}
use Rattle.rh_combine.proofs.Meaning.{of_them}
use Rattle.rh_combine.proofs.Rising.{rising_of_part, rising_rise}

-- what comes of the numbers that pass a test are the numbers that pass of what comes
pub answer_of : (passes : ℕ → Bool) (how : How) (lists : List (List ℕ)) → answer how (map (filter passes) lists) ≡ filter passes (answer how lists)
answer_of passes how lists = sym (ap rising_keys (of_them passes how lists)) ∙ rising_of_part passes (meant how lists)

-- ---- two ranges, one after the other

module _ (a b c : ℕ) (first : a ≤ b) (second : b ≤ c) where
  later : (x y : ℕ) (ys : List ℕ) → AllByRecursion (λ y. nat_cmp x y ≡ Less) (y ∷ ys) → x < y
  later x y ys h = subst (λ r. MatchOrdering r (x < y) (x ≡ y) (y < x)) h.0 (ranks x y)

  not_in_first : (y : ℕ) → b ≤ y → stands a b y ≡ false
  not_in_first y behind = rw (le-ltb y b behind) (and_none (not (nat_lt y a)))
    where
      and_none : (t : Bool) → (t && false) ≡ false
      and_none true = refl
      and_none false = refl

  not_in_second : (y : ℕ) → y < b → stands b c y ≡ false
  not_in_second y before = rw (lt-ltb y b before) refl

  both_first : (y : ℕ) → y < b → stands a c y ≡ stands a b y
  both_first y before = ap (λ t. not (nat_lt y a) && t) (lt-ltb y c (omega arith) ∙ sym (lt-ltb y b before))

  both_second : (y : ℕ) → b ≤ y → stands a c y ≡ stands b c y
  both_second y behind = ap (λ t. not t && nat_lt y c) (le-ltb y a (omega arith) ∙ sym (le-ltb y b behind))

  none_before : (x : ℕ) (xs : List ℕ) → b ≤ x → AllByRecursion (λ y. nat_cmp x y ≡ Less) xs → within a b xs ≡ []
  none_before x [] behind h = refl
  none_before x (y ∷ ys) behind h = rw (not_in_first y (omega (arith, later x y ys h))) (none_before x ys behind h.1)

  pub joined : (xs : List ℕ) → IsStrictlySortedBy nat_cmp xs → within a c xs ≡ within a b xs ++ within b c xs
  unfolding IsStrictlySortedBy
  joined [] h = refl
  joined (x ∷ xs) h =
      let others = joined xs h.1 in
      elim (cases_lt x b) [
        | inl before ↦ first_step x xs before others
        | inr behind ↦ second_step x xs behind (none_before x xs behind h.0) others
      ]
    where
      put_first : (t : Bool) (x : ℕ) (l m n : List ℕ) → l ≡ m ++ n → cond t (x ∷ l) l ≡ cond t (x ∷ m) m ++ n
      put_first true x l m n e = ap (λ l. x ∷ l) e
      put_first false x l m n e = e

      put_second : (t : Bool) (x : ℕ) (l m n : List ℕ) → m ≡ [] → l ≡ m ++ n → cond t (x ∷ l) l ≡ m ++ cond t (x ∷ n) n
      put_second true x l m n none e = rw none (ap (λ l. x ∷ l) (e ∙ ap (λ m. m ++ n) none))
      put_second false x l m n none e = e

      first_step : (x : ℕ) (xs : List ℕ) → x < b → within a c xs ≡ within a b xs ++ within b c xs → within a c (x ∷ xs) ≡ within a b (x ∷ xs) ++ within b c (x ∷ xs)
      first_step x xs before e = rw (both_first x before, not_in_second x before) (put_first (stands a b x) x _ _ _ e)

      second_step : (x : ℕ) (xs : List ℕ) → b ≤ x → within a b xs ≡ [] → within a c xs ≡ within a b xs ++ within b c xs → within a c (x ∷ xs) ≡ within a b (x ∷ xs) ++ within b c (x ∷ xs)
      second_step x xs behind none e = rw (both_second x behind, not_in_first x behind) (put_second (stands b c x) x _ _ _ none e)

pub of_two : (a b c : ℕ) → a ≤ b → b ≤ c → (how : How) (lists : List (List ℕ)) → within a c (answer how lists) ≡ within a b (answer how lists) ++ within b c (answer how lists)
of_two a b c first second how lists = joined a b c first second (answer how lists) (rising_rise (meant how lists))

-- ---- a range that has all numbers

stands_there : (a c k : ℕ) → a ≤ k → k < c → stands a c k ≡ true
stands_there a c k above below = rw (le-ltb k a above, lt-ltb k c below) refl

pub within_all : (a c : ℕ) (keys : List ℕ) → All (λ k. (a ≤ k) × (k < c)) keys → within a c keys ≡ keys
within_all a c [] h = refl
within_all a c (k ∷ keys) h =
    let this = h 0 0 (omega arith) in
    rw (stands_there a c k this.0 this.1) (ap (λ l. k ∷ l) (within_all a c keys (λ i d inside. h (suc i) d (omega (arith, inside)))))

pub lists_within_all : (a c : ℕ) (lists : List (List ℕ)) → AllWithin a c lists → map (within a c) lists ≡ lists
lists_within_all a c [] h = refl
lists_within_all a c (keys ∷ others) h =
    ap (λ l. l ∷ map (within a c) others) (within_all a c keys (h 0 [] (omega arith)))
    ∙ ap (λ l. keys ∷ l) (lists_within_all a c others (λ i d inside. h (suc i) d (omega (arith, inside))))

pub of_all : (a c : ℕ) (how : How) (lists : List (List ℕ)) → AllWithin a c lists → within a c (answer how lists) ≡ answer how lists
of_all a c how lists h = sym (answer_of (stands a c) how lists) ∙ ap (answer how) (lists_within_all a c lists h)
