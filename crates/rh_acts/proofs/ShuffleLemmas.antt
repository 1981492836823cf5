-- The same keys in another order: the phase over them is the same.
use Rattle.std.proofs.Common.{◌≡◌, ℕ, ◌<◌, inl, inr, sym, ap, ◌∙◌, arith, List, [], ◌∷◌, length, cond}
use Rattle.std.specs.Prelude.{nat_eq}
use Rattle.std.specs.List.{Contains, sum_by, count_by}
use Rattle.std.specs.FinSet as set
use Rattle.std.specs.FinSet.{contains}
use Rattle.std.proofs.lemmas.Bool.{eqb-true, eq-eqb}
use Rattle.std.proofs.lemmas.List.Sums.{sum_by-cons}
use Rattle.rh_layout.specs.Layout.{Keys}
use Rattle.rh_layout.proofs.SetLemmas.{same_keys}
use Rattle.rh_ledger.specs.declared.tally.Kind.{Kind}
use Rattle.rh_ledger.specs.declared.tally.Kind.TheVariants.{Insert, Remove, Ask}
use Rattle.rh_ledger.specs.Tally.{none_yet, added_of, removed_of}
use Rattle.rh_ledger.specs.Phase.{set_after, tally_of, looked_up}
use Rattle.rh_acts.proofs.ActLemmas.{contains_head, contains_tail, contains_cases, contains_none}
use Rattle.rh_acts.proofs.FoldLemmas.{true_or_false, then_is, else_is, all_kept, all_there, there_cases, left_part, left_out, left_kept, set_of_ask, added_len, removed_len, tally_of_insert, tally_of_remove, tally_of_ask}
use Rattle.rh_acts.proofs.SumLemmas.{ones}
use Rattle.rh_acts.proofs.PhaseLaws.{found_count}

-- every sum over the lists is the same
abbrev pub AreShuffled : (xs ys : List ℕ) → Type 0
AreShuffled xs ys = (f : ℕ → ℕ) → sum_by f xs ≡ sum_by f ys

-- ---- members

abbrev is_it : (q x : ℕ) → ℕ
is_it q x = cond (nat_eq x q) 1 0

some_times : (q : ℕ) (xs : List ℕ) → Contains xs q → 0 < sum_by (is_it q) xs
some_times q [] h = absurd (contains_none q h)
some_times q (x ∷ xs) h =
    elim (contains_cases x q xs h) [
      | inl is ↦ omega (arith, sum_by-cons (is_it q) x xs, then_is (nat_eq x q) 1 0 (eq-eqb x q is))
      | inr later ↦ omega (arith, sum_by-cons (is_it q) x xs, some_times q xs later)
    ]

from_times : (q : ℕ) (xs : List ℕ) → 0 < sum_by (is_it q) xs → Contains xs q
from_times q [] some = absurd (omega arith)
from_times q (x ∷ xs) some =
    elim (true_or_false (nat_eq x q)) [
      | inl yes' ↦ rw (eqb-true x q yes') (contains_head q xs)
      | inr no' ↦ contains_tail x q xs (from_times q xs (omega (arith, sum_by-cons (is_it q) x xs, else_is (nat_eq x q) 1 0 no')))
    ]

module _ (xs ys : List ℕ) (same : AreShuffled xs ys) where
  to_other : (q : ℕ) → Contains xs q → Contains ys q
  to_other q h = from_times q ys (omega (arith, same (is_it q), some_times q xs h))

  from_other : (q : ℕ) → Contains ys q → Contains xs q
  from_other q h = from_times q xs (omega (arith, same (is_it q), some_times q ys h))

  same_length : length xs ≡ length ys
  same_length = sym (ones xs) ∙ same (λ x. 1) ∙ ones ys

  set_inserted : (S : Keys) → set_after Insert S xs ≡ set_after Insert S ys
  set_inserted S = same_keys (set_after Insert S xs) (set_after Insert S ys)
      (λ q h. elim (there_cases S xs q h) [ inl old ↦ all_kept S ys q old | inr in' ↦ all_there S ys q (to_other q in') ])
      (λ q h. elim (there_cases S ys q h) [ inl old ↦ all_kept S xs q old | inr in' ↦ all_there S xs q (from_other q in') ])

  set_removed : (S : Keys) → set_after Remove S xs ≡ set_after Remove S ys
  set_removed S = same_keys (set_after Remove S xs) (set_after Remove S ys)
      (λ q h. left_kept S ys q (left_part S xs q h) (λ in'. left_out S xs q (from_other q in') h))
      (λ q h. left_kept S xs q (left_part S ys q h) (λ in'. left_out S ys q (to_other q in') h))

  pub same_set_after : (kind : Kind) (S : Keys) → set_after kind S xs ≡ set_after kind S ys
  same_set_after Insert S = set_inserted S
  same_set_after Remove S = set_removed S
  same_set_after Ask S = set_of_ask S xs ∙ sym (set_of_ask S ys)

  tally_inserted : (S : Keys) → tally_of Insert S xs ≡ tally_of Insert S ys
  tally_inserted S =
      let n = (tally_of Insert S xs).added in
      sym (tally_of_insert S xs n (omega (arith, added_len S xs)))
      ∙ ap (λ m. added_of m n) same_length
      ∙ tally_of_insert S ys n (omega (arith, added_len S xs, ap set.len (set_inserted S)))

  tally_removed : (S : Keys) → tally_of Remove S xs ≡ tally_of Remove S ys
  tally_removed S =
      let n = (tally_of Remove S xs).removed in
      sym (tally_of_remove S xs n (omega (arith, removed_len S xs)))
      ∙ ap (λ m. removed_of m n) same_length
      ∙ tally_of_remove S ys n (omega (arith, removed_len S xs, ap set.len (set_removed S)))

  tally_asked : (S : Keys) → tally_of Ask S xs ≡ tally_of Ask S ys
  tally_asked S =
      let found : count_by (λ t. t) (looked_up S xs) ≡ count_by (λ t. t) (looked_up S ys) = found_count S xs ∙ same (λ k. cond (contains S k) 1 0) ∙ sym (found_count S ys) in
      sym (tally_of_ask S xs)
      ∙ ap (λ m. record none_yet { read = m; found = count_by (λ t. t) (looked_up S xs) }) same_length
      ∙ ap (λ m. record none_yet { read = length ys; found = m }) found
      ∙ tally_of_ask S ys

  pub same_tally_of : (kind : Kind) (S : Keys) → tally_of kind S xs ≡ tally_of kind S ys
  same_tally_of Insert S = tally_inserted S
  same_tally_of Remove S = tally_removed S
  same_tally_of Ask S = tally_asked S
