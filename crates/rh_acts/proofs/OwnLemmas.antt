-- The lists of the workers, joined, and the acts of each in the list of all.
use Rattle.std.proofs.Common.{◌≡◌, ℕ, zero, suc, ◌<◌, inl, inr, refl, sym, ap, ◌∙◌, subst, arith, List, [], ◌∷◌, length, Bool, true, false, cond}
use Rattle.std.specs.Prelude.{nat_eq}
use Rattle.std.specs.List.{Contains, filter}
use Rattle.std.proofs.lemmas.Bool.{eq-eqb}
use Rattle.std.proofs.lemmas.List.Elements.{Contains-append_left, Contains-append_right, Contains-append_cases}
use Rattle.rh_acts.specs.Act.{Act}
use Rattle.rh_acts.specs.Workers.{Made, acts_of, own, AreOf, joined, piece}
use Rattle.rh_acts.proofs.ActLemmas.{contains_head, contains_tail, contains_cases, contains_none}
use Rattle.rh_acts.proofs.FoldLemmas.{true_or_false}

-- ---- the joined lists

pub from_joined : (pieces : List (List ℕ)) (k : ℕ) → Contains (joined pieces) k → (w : ℕ) × (w < length pieces) × Contains (piece pieces w) k
from_joined [] k h = absurd (contains_none k h)
from_joined (x ∷ xs) k h =
    elim (Contains-append_cases x (joined xs) k h) [
      | inl here ↦ (0, omega arith, here)
      | inr later ↦ let got = from_joined xs k later in (suc got.0, omega (arith, got.1), got.2)
    ]

pub in_joined : (pieces : List (List ℕ)) (w k : ℕ) → w < length pieces → Contains (piece pieces w) k → Contains (joined pieces) k
in_joined [] w k l h = absurd (omega arith)
in_joined (x ∷ xs) zero k l h = Contains-append_left x (joined xs) k h
in_joined (x ∷ xs) (suc w) k l h = Contains-append_right x (joined xs) k (in_joined xs w k (omega arith) h)

-- ---- own acts

abbrev of_worker : ℕ → Made → Bool
of_worker w m = nat_eq m.worker w

pub own_yes : (w : ℕ) (m : Made) (ms : List Made) → nat_eq m.worker w ≡ true → own w (m ∷ ms) ≡ m.act ∷ own w ms
own_yes w m ms e = ap (λ t. acts_of (cond t (m ∷ filter (of_worker w) ms) (filter (of_worker w) ms))) e

pub own_no : (w : ℕ) (m : Made) (ms : List Made) → nat_eq m.worker w ≡ false → own w (m ∷ ms) ≡ own w ms
own_no w m ms e = ap (λ t. acts_of (cond t (m ∷ filter (of_worker w) ms) (filter (of_worker w) ms))) e

-- An act of a worker is one of all acts, and each act is of its worker.
pub own_among : (w : ℕ) (made : List Made) (a : Act) → Contains (own w made) a → Contains (acts_of made) a
own_among w [] a h = h
own_among w (m ∷ ms) a h =
    elim (true_or_false (nat_eq m.worker w)) [
      | inl yes' ↦
          elim (contains_cases m.act a (own w ms) (subst (λ (xs : List Act). Contains xs a) (own_yes w m ms yes') h)) [
            | inl is ↦ subst (λ (z : Act). Contains (acts_of (m ∷ ms)) z) is (contains_head m.act (acts_of ms))
            | inr later ↦ contains_tail m.act a (acts_of ms) (own_among w ms a later)
          ]
      | inr no' ↦ contains_tail m.act a (acts_of ms) (own_among w ms a (subst (λ (xs : List Act). Contains xs a) (own_no w m ms no') h))
    ]

pub of_its_own : (made : List Made) (a : Act) → Contains (acts_of made) a → (m : Made) × Contains made m × Contains (own m.worker made) a
of_its_own [] a h = absurd (contains_none a h)
of_its_own (x ∷ xs) a h =
    elim (contains_cases x.act a (acts_of xs) h) [
      | inl is ↦ (x, contains_head x xs, subst (λ (ys : List Act). Contains ys a) (sym (own_yes x.worker x xs (eq-eqb x.worker x.worker refl))) (subst (λ (z : Act). Contains (x.act ∷ own x.worker xs) z) is (contains_head x.act (own x.worker xs))))
      | inr later ↦
          let got = of_its_own xs a later in
          let m = got.0 in (
            m,
            contains_tail x m xs got.1,
            elim (true_or_false (nat_eq x.worker m.worker)) [
              | inl yes' ↦ subst (λ (ys : List Act). Contains ys a) (sym (own_yes m.worker x xs yes')) (contains_tail x.act a (own m.worker xs) got.2)
              | inr no' ↦ subst (λ (ys : List Act). Contains ys a) (sym (own_no m.worker x xs no')) got.2
            ],
          )
    ]

-- Where no worker has an act there is none.
pub none_of_own : (workers : ℕ) (made : List Made) → AreOf workers made → ((w : ℕ) → w < workers → own w made ≡ []) → made ≡ []
none_of_own workers [] owned none = refl
none_of_own workers (m ∷ ms) owned none =
    let e : m.act ∷ own m.worker ms ≡ [] = sym (own_yes m.worker m ms (eq-eqb m.worker m.worker refl)) ∙ none m.worker (owned m (contains_head m ms)) in
    absurd (cc)
