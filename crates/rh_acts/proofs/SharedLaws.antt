-- Lists that are done in rounds, and a list that is shared out.
use Rattle.std.proofs.Common.{◌≡◌, ◌≢◌, ℕ, zero, suc, ◌+◌, ◌<◌, inl, inr, refl, sym, ap, ◌∙◌, arith, List, [], ◌∷◌, ◌++◌, length, get_or, map, false, cond}
use Rattle.std.specs.Prelude.{nat_eq}
use Rattle.std.specs.List.{Contains, AllPairs, sum_by}
use Rattle.std.specs.FinSet.{contains}
use Rattle.std.proofs.lemmas.Bool.{cases_eq, eqb-true, eq-eqb}
use Rattle.std.proofs.lemmas.Bool.Decides.{nat_tests}
use Rattle.std.proofs.lemmas.List.{get_or-map, length-map}
use Rattle.std.proofs.lemmas.List.Elements.{Contains-get_or}
use Rattle.std.proofs.lemmas.List.Sums.{sum_by-cons, sum_by-append}
use Rattle.rh_layout.specs.Layout.{Keys}
use Rattle.rh_ledger.specs.declared.tally.Kind.{Kind}
use Rattle.rh_ledger.specs.Tally.{sum_of}
use Rattle.rh_ledger.specs.Phase.{set_after, tally_of, looked_up}
use Rattle.rh_ledger.proofs.PhaseLemmas.{set_after-append, tally_of-append}
use Rattle.rh_acts.specs.Workers.{joined, piece}
use Rattle.rh_acts.specs.Shared.{IsSharedOut, pieces_at, AreSplit}
use Rattle.rh_acts.proofs.ActLemmas.{contains_head, contains_tail, contains_cases, contains_none}
use Rattle.rh_acts.proofs.FoldLemmas.{true_or_false, then_is, else_is}
use Rattle.rh_acts.proofs.SumLemmas.{sum_upto, upto_same, upto_zero, upto_add, upto_first, upto_one, upto_joined}
use Rattle.rh_acts.proofs.OwnLemmas.{from_joined}
use Rattle.rh_acts.proofs.ShuffleLemmas.{AreShuffled, same_set_after, same_tally_of}

-- ---- rounds

rounds_shuffled : (pieces first next : List (List ℕ)) → AreSplit pieces first next → AreShuffled (joined first ++ joined next) (joined pieces)
rounds_shuffled pieces first next are f =
    let n = length pieces in
    let of_first = upto_joined f first in
    let of_next = upto_joined f next in
    let of_all = upto_joined f pieces in
    let parts = upto_same (λ w. sum_by f (piece pieces w)) (λ w. sum_by f (piece first w) + sum_by f (piece next w)) n (λ w l. ap (sum_by f) (are.split w l) ∙ sum_by-append f (piece first w) (piece next w)) in
    let added = upto_add (λ w. sum_by f (piece first w)) (λ w. sum_by f (piece next w)) n in
    let same_first = ap (sum_upto (λ w. sum_by f (piece first w))) are.first_size in
    let same_next = ap (sum_upto (λ w. sum_by f (piece next w))) are.next_size in
    omega (arith, sum_by-append f (joined first) (joined next), of_first, of_next, of_all, parts, added, same_first, same_next)

pub rounds_are_one_phase : (kind : Kind) (S : Keys) (pieces first next : List (List ℕ)) → AreSplit pieces first next → (set_after kind (set_after kind S (joined first)) (joined next) ≡ set_after kind S (joined pieces)) × (sum_of (tally_of kind S (joined first)) (tally_of kind (set_after kind S (joined first)) (joined next)) ≡ tally_of kind S (joined pieces))
rounds_are_one_phase kind S pieces first next are =
    let shuffled = rounds_shuffled pieces first next are in (
      sym (set_after-append kind S (joined first) (joined next)) ∙ same_set_after (joined first ++ joined next) (joined pieces) shuffled kind S,
      sym (tally_of-append kind S (joined first) (joined next)) ∙ same_tally_of (joined first ++ joined next) (joined pieces) shuffled kind S,
    )

-- ---- sums over the positions of a list

by_position : (f : ℕ → ℕ) (keys : List ℕ) → sum_by f keys ≡ sum_upto (λ i. f (get_or keys i 0)) (length keys)
by_position f [] = refl
by_position f (k ∷ keys) = sum_by-cons f k keys ∙ ap (λ n. f k + n) (by_position f keys) ∙ sym (upto_first (λ i. f (get_or (k ∷ keys) i 0)) (length keys))

sum_of_map : (f g : ℕ → ℕ) (xs : List ℕ) → sum_by f (map g xs) ≡ sum_by (λ i. f (g i)) xs
sum_of_map f g [] = refl
sum_of_map f g (x ∷ xs) = sum_by-cons f (g x) (map g xs) ∙ ap (λ n. f (g x) + n) (sum_of_map f g xs) ∙ sym (sum_by-cons (λ i. f (g i)) x xs)

sum_of_maps : (f g : ℕ → ℕ) (xss : List (List ℕ)) → sum_by f (joined (map (map g) xss)) ≡ sum_by (λ i. f (g i)) (joined xss)
sum_of_maps f g [] = refl
sum_of_maps f g (xs ∷ xss) = omega (arith, sum_by-append f (map g xs) (joined (map (map g) xss)), sum_of_map f g xs, sum_of_maps f g xss, sum_by-append (λ i. f (g i)) xs (joined xss))

-- what x is worth where it is i
abbrev at_position : (h : ℕ → ℕ) (i x : ℕ) → ℕ
at_position h i x = cond (nat_eq x i) (h x) 0

-- a sum by the values of the list's members
by_value : (h : ℕ → ℕ) (n : ℕ) (xs : List ℕ) → ((x : ℕ) → Contains xs x → x < n) → sum_by h xs ≡ sum_upto (λ i. sum_by (at_position h i) xs) n
by_value h n [] below = sym (upto_zero n)
by_value h n (x ∷ xs) below =
    omega (
      arith,
      sum_by-cons h x xs,
      by_value h n xs (λ y in'. below y (contains_tail x y xs in')),
      upto_one x (h x) n (below x (contains_head x xs)),
      upto_add (λ i. at_position h i x) (λ i. sum_by (at_position h i) xs) n,
      upto_same (λ i. sum_by (at_position h i) (x ∷ xs)) (λ i. at_position h i x + sum_by (at_position h i) xs) n (λ i l. sum_by-cons (at_position h i) x xs),
    )

sum_absent : (h : ℕ → ℕ) (i : ℕ) (xs : List ℕ) → (Contains xs i → ⊥) → sum_by (at_position h i) xs ≡ 0
sum_absent h i [] none = refl
sum_absent h i (x ∷ xs) none =
    elim (true_or_false (nat_eq x i)) [
      | inl yes' ↦ absurd (none (rw (eqb-true x i yes') (contains_head i xs)))
      | inr no' ↦ omega (arith, sum_by-cons (at_position h i) x xs, else_is (nat_eq x i) (h x) 0 no', sum_absent h i xs (λ in'. none (contains_tail x i xs in')))
    ]

abbrev IsOnce : List ℕ → Type 0
IsOnce xs = AllPairs (λ i j. i ≢ j) xs

once_tail : (x : ℕ) (xs : List ℕ) → IsOnce (x ∷ xs) → IsOnce xs
once_tail x xs once = λ i j d l m. once (suc i) (suc j) d (omega arith) (omega arith)

once_head : (x : ℕ) (xs : List ℕ) → IsOnce (x ∷ xs) → Contains xs x → ⊥
once_head x xs once h = once 0 (suc h.0) x (omega arith) (omega (arith, h.1)) (sym h.2)

sum_once : (h : ℕ → ℕ) (i : ℕ) (xs : List ℕ) → IsOnce xs → Contains xs i → sum_by (at_position h i) xs ≡ h i
sum_once h i [] once in' = absurd (contains_none i in')
sum_once h i (x ∷ xs) once in' =
    elim (cases_eq x i) [
      | inl is ↦
          let rest : sum_by (at_position h i) xs ≡ 0 = sum_absent h i xs (λ later. once_head x xs once (rw is later)) in
          omega (arith, sum_by-cons (at_position h i) x xs, then_is (nat_eq x i) (h x) 0 (eq-eqb x i is), ap h is, rest)
      | inr ne ↦
          let other : nat_eq x i ≡ false = grind (arith, nat_tests) in
          omega (arith, sum_by-cons (at_position h i) x xs, else_is (nat_eq x i) (h x) 0 other, sum_once h i xs (once_tail x xs once) (later in' ne))
    ]
  where
    later : Contains (x ∷ xs) i → (x ≡ i → ⊥) → Contains xs i
    later in' ne = elim (contains_cases x i xs in') [ inl is ↦ absurd (ne is) | inr it ↦ it ]

-- ---- a list that is shared out

module _ (count : ℕ) (claims : List (List ℕ)) (shared : IsSharedOut count claims) where
  all_below : (xss : List (List ℕ)) (i : ℕ) → ((w : ℕ) → w < length xss → Contains (piece xss w) i → i < count) → Contains (joined xss) i → i < count
  all_below xss i below h = let at = from_joined xss i h in below at.0 at.1 at.2

  -- the one worker that claimed position i has it once
  position_once : (h : ℕ → ℕ) (i : ℕ) → i < count → sum_by (at_position h i) (joined claims) ≡ h i
  position_once h i l =
      let it = shared.all i l in
      let v = it.0 in
      sym (upto_joined (at_position h i) claims)
      ∙ upto_same (λ w. sum_by (at_position h i) (piece claims w)) (λ w. cond (nat_eq v w) (h i) 0) (length claims) (λ w w_in. elim (cases_eq v w) [
        | inl is ↦ sum_once h i (piece claims w) (shared.once w w_in) (rw (← is) it.2) ∙ sym (then_is (nat_eq v w) (h i) 0 (eq-eqb v w is))
        | inr ne ↦
            let other : nat_eq v w ≡ false = grind (arith, nat_tests) in
            sum_absent h i (piece claims w) (λ in'. ne (shared.one_worker v w i it.1 w_in it.2 in')) ∙ sym (else_is (nat_eq v w) (h i) 0 other)
      ])
      ∙ upto_one v (h i) (length claims) it.1

  claimed_sum : (h : ℕ → ℕ) → sum_by h (joined claims) ≡ sum_upto h count
  claimed_sum h =
      by_value h count (joined claims) (λ i in'. all_below claims i (λ w l. shared.below w i l) in')
      ∙ upto_same (λ i. sum_by (at_position h i) (joined claims)) h count (position_once h)

shared_shuffled : (keys : List ℕ) (claims : List (List ℕ)) → IsSharedOut (length keys) claims → AreShuffled (joined (pieces_at keys claims)) keys
shared_shuffled keys claims shared f =
    sum_of_maps f (λ i. get_or keys i 0) claims ∙ claimed_sum (length keys) claims shared (λ i. f (get_or keys i 0)) ∙ sym (by_position f keys)

piece_at : (keys : List ℕ) (claims : List (List ℕ)) (w : ℕ) → piece (pieces_at keys claims) w ≡ map (λ i. get_or keys i 0) (piece claims w)
piece_at keys [] w = refl
piece_at keys (x ∷ xs) zero = refl
piece_at keys (x ∷ xs) (suc w) = piece_at keys xs w

look_up_at : (S : Keys) (keys : List ℕ) (i : ℕ) → i < length keys → get_or (looked_up S keys) i false ≡ contains S (get_or keys i 0)
look_up_at S keys i l = get_or-map (contains S) keys i 0 false l

pub shared_list_is_one_list : (kind : Kind) (S : Keys) (keys : List ℕ) (claims : List (List ℕ)) → IsSharedOut (length keys) claims → (set_after kind S (joined (pieces_at keys claims)) ≡ set_after kind S keys) × (tally_of kind S (joined (pieces_at keys claims)) ≡ tally_of kind S keys) × ((w j : ℕ) → w < length claims → j < length (piece claims w) → get_or (looked_up S (piece (pieces_at keys claims) w)) j false ≡ get_or (looked_up S keys) (get_or (piece claims w) j 0) false)
shared_list_is_one_list kind S keys claims shared =
    let shuffled = shared_shuffled keys claims shared in (
      same_set_after (joined (pieces_at keys claims)) keys shuffled kind S,
      same_tally_of (joined (pieces_at keys claims)) keys shuffled kind S,
      λ w j w_in j_in.
          let offsets = piece claims w in
          let i = get_or offsets j 0 in
          let there : i < length keys = shared.below w i w_in (Contains-get_or offsets j 0 j_in) in
          ap (λ (ks : List ℕ). get_or (looked_up S ks) j false) (piece_at keys claims w)
          ∙ look_up_at S (map (λ p. get_or keys p 0) offsets) j (omega (arith, j_in, length-map offsets (λ p. get_or keys p 0)))
          ∙ ap (contains S) (get_or-map (λ p. get_or keys p 0) offsets j 0 0 j_in)
          ∙ sym (look_up_at S keys i there),
    )
