-- One worker's phase, key by key.
use Rattle.std.proofs.Common.{◌≡◌, ◌≢◌, ℕ, ◌+◌, ◌-◌, ◌^◌, ◌<◌, ◌≤◌, ◌⊎◌, inl, inr, refl, sym, ap, ◌∙◌, arith, Bool, true, false, cond, List, [], ◌∷◌, length, take, get_or}
use Rattle.std.specs.Cmp.{nat_cmp_total}
use Rattle.std.specs.FinSet as set
use Rattle.std.specs.FinSet.{contains}
use Rattle.std.proofs.lemmas.List.{length-take}
use Rattle.rh_layout.specs.Layout.{Keys}
use Rattle.rh_ledger.specs.declared.tally.Kind.{Kind}
use Rattle.rh_ledger.specs.declared.tally.Kind.TheVariants.{Insert, Remove, Ask}
use Rattle.rh_ledger.specs.declared.tally.Tally.{Tally}
use Rattle.rh_ledger.specs.Tally.{sum_of, tally_by}
use Rattle.rh_ledger.specs.Phase.{set_with, count_of, most_added, set_after, tally_of}
use Rattle.rh_ledger.proofs.PhaseLemmas.{set_after_more, tally_of_more, len-insert_all}

-- ---- room

len-remove-le : (S : Keys) (k : ℕ) → set.len (set.remove S k) ≤ set.len S
len-remove-le S k =
    let e = set.len-remove nat_cmp_total S k in
    elim (cond_cases (contains S k) (set.len S - 1) (set.len S)) [ inl less ↦ omega (arith, e, less) | inr same ↦ omega (arith, e, same) ]
  where
    cond_cases : (b : Bool) (m n : ℕ) → (cond b m n ≡ m) ⊎ (cond b m n ≡ n)
    cond_cases true m n = inl refl
    cond_cases false m n = inr refl

pub len-remove_all : (S : Keys) (keys : List ℕ) → set.len (set_after Remove S keys) ≤ set.len S
len-remove_all S [] = omega arith
len-remove_all S (k ∷ keys) = omega (arith, len-remove_all (set.remove S k) keys, len-remove-le S k)

-- what is left of the room of a phase that inserts or removes serves the next key
pub room_on : (kind : Kind) (bits i k : ℕ) (S T : Keys) (keys : List ℕ) → kind ≢ Ask → i < length keys → set.len S + most_added kind keys < 2 ^ bits
    → T ≡ set_after kind S (take i keys) → set.len T + most_added kind (k ∷ []) < 2 ^ bits
room_on Insert bits i k S T keys changes inside room is = rw is (omega (arith, len-insert_all S (take i keys), length-take i keys))
room_on Remove bits i k S T keys changes inside room is = rw is (omega (arith, len-remove_all S (take i keys)))
room_on Ask bits i k S T keys changes inside room is = absurd (changes refl)

-- ---- the set and the tally after one more key

module _ (kind : Kind) (S T : Keys) (keys : List ℕ) (i : ℕ) (inside : i < length keys) (is : T ≡ set_after kind S (take i keys)) where
  pub set_goes_on : set_with kind T (get_or keys i 0) ≡ set_after kind S (take (i + 1) keys)
  set_goes_on = ap (λ (U : Keys). set_with kind U (get_or keys i 0)) is ∙ sym (set_after_more kind S keys i inside)

  pub tally_goes_on : (t u : Tally) → tally_of kind S (take i keys) ≡ t → count_of kind T (get_or keys i 0) ≡ u → tally_of kind S (take (i + 1) keys) ≡ sum_of t u
  tally_goes_on t u p q =
      tally_of_more kind S keys i inside
      ∙ ap (λ r. sum_of r (count_of kind (set_after kind S (take i keys)) (get_or keys i 0))) p
      ∙ ap (sum_of t) (ap (λ (U : Keys). count_of kind U (get_or keys i 0)) (sym is) ∙ q)

  pub counted_on : (n m : ℕ) (r b : Bool) → tally_of kind S (take i keys) ≡ tally_by kind i n → count_of kind T (get_or keys i 0) ≡ tally_by kind 1 (cond r 1 0)
      → r ≡ b → n + cond b 1 0 ≡ m → tally_of kind S (take (i + 1) keys) ≡ tally_by kind (i + 1) m
  counted_on n m r b so_far counts told more =
      tally_goes_on (tally_by kind i n) (tally_by kind 1 (cond r 1 0)) so_far counts
      ∙ summed kind
      ∙ ap (tally_by kind (i + 1)) (ap (λ (q : Bool). n + cond q 1 0) told ∙ more)
    where
      summed : (kind : Kind) → sum_of (tally_by kind i n) (tally_by kind 1 (cond r 1 0)) ≡ tally_by kind (i + 1) (n + cond r 1 0)
      summed Insert = refl
      summed Remove = refl
      summed Ask = refl

-- ---- the look-ups after one more key
