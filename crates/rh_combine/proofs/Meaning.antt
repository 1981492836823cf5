-- Which numbers come of lists, and of those numbers of them that pass a test.
use Rattle.std.proofs.Common.{◌≡◌, ◌∙◌, ap, sym, refl, ℕ, ◌+◌, ◌%◌, inl, inr, arith, Bool, true, false, cond, List, [], ◌∷◌}
use Rattle.std.specs.Prelude.{filter, map, not, ◌&&◌, ◌||◌, ◌==◌, count_by}
use Rattle.std.specs.List.{fold, list_all, list_any}
use Rattle.std.specs.Ordering.{is_eq, nat_cmp}
use Rattle.std.specs.Cmp.{nat_cmp_total, nat_eq_equiv, unsigned_tied}
use Rattle.std.specs.FinSet as set
use Rattle.std.specs.FinSet.{contains, contains-difference, contains-empty, contains-from_list_nat, contains-insert, contains-intersection, contains-remove, contains-retain, contains-union, nat_cmp-IsAntisymmetric}
use Rattle.std.proofs.lemmas.Bool.{cases_Bool, eqb-true}
use Rattle.std.proofs.lemmas.List.Sums.{sum_by-cons}
use Rattle.rh_layout.specs.Layout.{Keys}
use Rattle.rh_combine.specs.declared.how.How.{How}
use Rattle.rh_combine.specs.declared.how.How.TheVariants.{Intersect, Union, Subtract, Xor}
use Rattle.rh_combine.specs.Combine.{has, meant, stands_by, with_list}

pub same : (S T : Keys) → ((q : ℕ) → contains S q ≡ contains T q) → S ≡ T
same S T h = set.same_set nat_cmp_total nat_cmp-IsAntisymmetric S T h

pub listed : (keys : List ℕ) (q : ℕ) → contains {R = nat_cmp} (set.from_list keys) q ≡ has keys q
listed keys q = contains-from_list_nat keys q

pub put : (S : Keys) (k q : ℕ) → contains (set.insert S k) q ≡ (k == q || contains S q)
put S k q = contains-insert nat_cmp_total S k q ∙ ap (λ b. b || contains S q) (unsigned_tied q k ∙ nat_eq_equiv.symm q k)

pub out : (S : Keys) (k q : ℕ) → contains (set.remove S k) q ≡ (not (k == q) && contains S q)
out S k q = contains-remove nat_cmp_total S k q ∙ ap (λ b. not b && contains S q) (unsigned_tied q k ∙ nat_eq_equiv.symm q k)

-- ---- one list more, of one number

abbrev pub either : How → Bool → Bool → Bool
either Intersect a b = a && b
either Union a b = a || b
either Subtract a b = a && not b
either Xor a b = (a && not b) || (b && not a)

pub contains-with_list : (how : How) (S : Keys) (keys : List ℕ) (q : ℕ) → contains (with_list how S keys) q ≡ either how (contains S q) (has keys q)
contains-with_list Intersect S keys q = contains-intersection nat_cmp_total S (set.from_list keys) q ∙ ap (λ b. contains S q && b) (listed keys q)
contains-with_list Union S keys q = contains-union nat_cmp_total S (set.from_list keys) q ∙ ap (λ b. contains S q || b) (listed keys q)
contains-with_list Subtract S keys q = contains-difference nat_cmp_total S (set.from_list keys) q ∙ ap (λ b. contains S q && not b) (listed keys q)
contains-with_list Xor S keys q =
    contains-union nat_cmp_total (set.difference S (set.from_list keys)) (set.difference (set.from_list keys) S) q
    ∙ ap (λ b. b || contains (set.difference (set.from_list keys) S) q) (contains-difference nat_cmp_total S (set.from_list keys) q)
    ∙ ap (λ b. (contains S q && not (contains (set.from_list {R = nat_cmp} keys) q)) || b) (contains-difference nat_cmp_total (set.from_list keys) S q)
    ∙ ap (λ b. (contains S q && not b) || (b && not (contains S q))) (listed keys q)

abbrev pub held : How → ℕ → Bool → List (List ℕ) → Bool
held how q b lists = fold (λ b keys. either how b (has keys q)) b lists

contains-with_lists : (how : How) (S : Keys) (lists : List (List ℕ)) (q : ℕ) → contains (fold (with_list how) S lists) q ≡ held how q (contains S q) lists
contains-with_lists how S [] q = refl
contains-with_lists how S (keys ∷ others) q = contains-with_lists how (with_list how S keys) others q ∙ ap (λ b. held how q b others) (contains-with_list how S keys q)

pub contains-meant : (how : How) (first : List ℕ) (others : List (List ℕ)) (q : ℕ) → contains (meant how (first ∷ others)) q ≡ held how q (has first q) others
contains-meant how first others q = contains-with_lists how (set.from_list first) others q ∙ ap (λ b. held how q b others) (listed first q)

-- ---- all lists, of one number

module _ (q : ℕ) where
  abbrev there : List ℕ → Bool
  there keys = has keys q

  and_and : (a b c : Bool) → ((a && b) && c) ≡ (a && (b && c))
  and_and true b c = refl
  and_and false b c = refl

  or_or : (a b c : Bool) → ((a || b) || c) ≡ (a || (b || c))
  or_or true b c = refl
  or_or false b c = refl

  neither : (a b c : Bool) → ((a && not b) && not c) ≡ (a && not (b || c))
  neither true true c = refl
  neither true false c = refl
  neither false b c = refl

  in_each : (b : Bool) (lists : List (List ℕ)) → held Intersect q b lists ≡ (b && list_all there lists)
  in_each true [] = refl
  in_each false [] = refl
  in_each b (keys ∷ others) = in_each (b && there keys) others ∙ and_and b (there keys) (list_all there others)

  in_one : (b : Bool) (lists : List (List ℕ)) → held Union q b lists ≡ (b || list_any there lists)
  in_one true [] = refl
  in_one false [] = refl
  in_one b (keys ∷ others) = in_one (b || there keys) others ∙ or_or b (there keys) (list_any there others)

  in_none : (b : Bool) (lists : List (List ℕ)) → held Subtract q b lists ≡ (b && not (list_any there lists))
  in_none true [] = refl
  in_none false [] = refl
  in_none b (keys ∷ others) = in_none (b && not (there keys)) others ∙ neither b (there keys) (list_any there others)

  turned : (a b : Bool) (n : ℕ) → (cond (either Xor a b) 1 0 + n) % 2 ≡ (cond a 1 0 + (cond b 1 0 + n)) % 2
  turned true true n = omega arith
  turned true false n = omega arith
  turned false true n = omega arith
  turned false false n = omega arith

  in_odd : (b : Bool) (lists : List (List ℕ)) → held Xor q b lists ≡ (((cond b 1 0 + count_by there lists) % 2) == 1)
  in_odd true [] = refl
  in_odd false [] = refl
  in_odd b (keys ∷ others) =
      in_odd (either Xor b (there keys)) others
      ∙ ap (λ n. n == 1) (turned b (there keys) (count_by there others))
      ∙ ap (λ n. ((cond b 1 0 + n) % 2) == 1) (sym (sum_by-cons (λ keys. cond (there keys) 1 0) keys others))

  pub stands_is : (how : How) (lists : List (List ℕ)) → contains (meant how lists) q ≡ stands_by how lists q
  stands_is Intersect [] = contains-empty nat_cmp q
  stands_is Intersect (first ∷ others) = contains-meant Intersect first others q ∙ in_each (there first) others
  stands_is Union [] = contains-empty nat_cmp q
  stands_is Union (first ∷ others) = contains-meant Union first others q ∙ in_one (there first) others
  stands_is Subtract [] = contains-empty nat_cmp q
  stands_is Subtract (first ∷ others) = contains-meant Subtract first others q ∙ in_none (there first) others
  stands_is Xor [] = contains-empty nat_cmp q
  stands_is Xor (first ∷ others) =
      contains-meant Xor first others q ∙ in_odd (there first) others
      ∙ ap (λ n. (n % 2) == 1) (sym (sum_by-cons (λ keys. cond (there keys) 1 0) first others))

  -- what comes of lists stands in one of them
  one_has : (how : How) (a b c : Bool) → (either how a b || c) ≡ true → (a || (b || c)) ≡ true
  one_has how true b c e = refl
  one_has how false true c e = refl
  one_has Intersect false false c e = e
  one_has Union false false c e = e
  one_has Subtract false false c e = e
  one_has Xor false false c e = e

  some_has : (how : How) (b : Bool) (lists : List (List ℕ)) → held how q b lists ≡ true → (b || list_any there lists) ≡ true
  some_has how true [] e = refl
  some_has how false [] e = e
  some_has how b (keys ∷ others) e = one_has how b (there keys) (list_any there others) (some_has how (either how b (there keys)) others e)

  pub has_some : (how : How) (lists : List (List ℕ)) → contains (meant how lists) q ≡ true → list_any there lists ≡ true
  has_some how [] e = sym (contains-empty nat_cmp q) ∙ e
  has_some how (first ∷ others) e = some_has how (there first) others (sym (contains-meant how first others q) ∙ e)

-- ---- the numbers that pass a test

pub or_and : (e c p : Bool) → (e ≡ true → p ≡ true) → ((e || c) && p) ≡ (e || (c && p))
or_and true c p h = h refl
or_and false c p h = refl

pub or_none : (e c p : Bool) → (e ≡ true → p ≡ false) → ((e || c) && p) ≡ (c && p)
or_none true true p h = refl
or_none true false p h = h refl
or_none false c p h = refl

and_true : (b : Bool) → (b && true) ≡ b
and_true true = refl
and_true false = refl

and_false : (b : Bool) → (b && false) ≡ false
and_false true = refl
and_false false = refl

nothing : (how : How) → either how false false ≡ false
nothing Intersect = refl
nothing Union = refl
nothing Subtract = refl
nothing Xor = refl

module _ (passes : ℕ → Bool) where
  pub holds : (S : Keys) (q : ℕ) → contains (set.retain S passes) q ≡ (contains S q && passes q)
  holds S q = contains-retain S passes q (λ x tie. ap passes (sym (eqb-true q x (sym (unsigned_tied q x) ∙ ap is_eq tie))))

  pub has-filter : (keys : List ℕ) (q : ℕ) → has (filter passes keys) q ≡ (has keys q && passes q)
  has-filter [] q = refl
  has-filter (k ∷ keys) q =
      elim (cases_Bool (passes k)) [
        | inl let_in ↦ rw let_in (ap (λ b. k == q || b) (has-filter keys q) ∙ sym (or_and (k == q) (has keys q) (passes q) (λ e. ap passes (sym (eqb-true k q e)) ∙ let_in)))
        | inr left_out ↦ rw left_out (has-filter keys q ∙ sym (or_none (k == q) (has keys q) (passes q) (λ e. ap passes (sym (eqb-true k q e)) ∙ left_out)))
      ]

  module _ (q : ℕ) where
    still_has : passes q ≡ true → (keys : List ℕ) → has (filter passes keys) q ≡ has keys q
    still_has kept keys = has-filter keys q ∙ ap (λ b. has keys q && b) kept ∙ and_true (has keys q)

    has_no_more : passes q ≡ false → (keys : List ℕ) → has (filter passes keys) q ≡ false
    has_no_more stopped keys = has-filter keys q ∙ ap (λ b. has keys q && b) stopped ∙ and_false (has keys q)

    held_still : passes q ≡ true → (how : How) (b : Bool) (lists : List (List ℕ)) → held how q b (map (filter passes) lists) ≡ held how q b lists
    held_still kept how b [] = refl
    held_still kept how b (keys ∷ others) =
        held_still kept how (either how b (has (filter passes keys) q)) others
        ∙ ap (λ t. held how q (either how b t) others) (still_has kept keys)

    held_no_more : passes q ≡ false → (how : How) (lists : List (List ℕ)) → held how q false (map (filter passes) lists) ≡ false
    held_no_more stopped how [] = refl
    held_no_more stopped how (keys ∷ others) =
        ap (λ t. held how q t (map (filter passes) others)) (ap (either how false) (has_no_more stopped keys) ∙ nothing how)
        ∙ held_no_more stopped how others

    one_of_them : (how : How) (first : List ℕ) (others : List (List ℕ)) → (contains (meant how (first ∷ others)) q && passes q) ≡ contains (meant how (map (filter passes) (first ∷ others))) q
    one_of_them how first others =
        elim (cases_Bool (passes q)) [
          | inl kept ↦
              ap (λ b. contains (meant how (first ∷ others)) q && b) kept ∙ and_true (contains (meant how (first ∷ others)) q) ∙ contains-meant how first others q
              ∙ sym (contains-meant how (filter passes first) (map (filter passes) others) q ∙ held_still kept how (has (filter passes first) q) others ∙ ap (λ b. held how q b others) (still_has kept first))
          | inr stopped ↦
              ap (λ b. contains (meant how (first ∷ others)) q && b) stopped ∙ and_false (contains (meant how (first ∷ others)) q)
              ∙ sym (contains-meant how (filter passes first) (map (filter passes) others) q ∙ ap (λ b. held how q b (map (filter passes) others)) (has_no_more stopped first) ∙ held_no_more stopped how others)
        ]

  -- what comes of the numbers that pass is what passes of all that comes
  pub of_them : (how : How) (lists : List (List ℕ)) → set.retain (meant how lists) passes ≡ meant how (map (filter passes) lists)
  of_them how [] = same _ _ (λ q. holds set.empty q ∙ ap (λ b. b && passes q) (contains-empty nat_cmp q) ∙ sym (contains-empty nat_cmp q))
  of_them how (first ∷ others) = same _ _ (λ q. holds (meant how (first ∷ others)) q ∙ one_of_them q how first others)
