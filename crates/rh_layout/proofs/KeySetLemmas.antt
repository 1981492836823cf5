-- The set of the keys that a list of cells holds.
use Rattle.std.proofs.Common.{◌≡◌, ℕ, zero, suc, ◌<◌, inl, inr, refl, ap, ◌∙◌, arith, List, [], ◌∷◌}
use Rattle.std.specs.Prelude.{IsTrue}
use Rattle.std.specs.Ordering.{nat_cmp}
use Rattle.std.specs.FinSet as set
use Rattle.std.specs.FinSet.{contains, contains-empty}
use Rattle.std.proofs.lemmas.Bool.{cases_eq, ne_eqb}
use Rattle.rh_layout.specs.Key.{key_in}
use Rattle.rh_layout.specs.Layout.{Holds, keys_of}
use Rattle.rh_layout.proofs.SetLemmas.{put_cases, put_it, put_kept}

pub keys_of-empty : (cells : List ℕ) → keys_of (0 ∷ cells) ≡ keys_of cells
unfolding keys_of
keys_of-empty cells = refl

pub keys_of-full : (value : ℕ) (cells : List ℕ) → 0 < value → keys_of (value ∷ cells) ≡ set.insert (keys_of cells) (key_in value)
unfolding keys_of
keys_of-full value cells some = rw (ne_eqb value 0 (λ e. omega arith)) refl

behind : (value : ℕ) (cells : List ℕ) (k : ℕ) → (c : ℕ) × Holds cells c k → (c : ℕ) × Holds (value ∷ cells) c k
behind value cells k got = (suc got.0, (omega (arith, got.1.0), got.1.1))

pub holds_from_contains : (cells : List ℕ) (k : ℕ) → IsTrue (contains (keys_of cells) k) → (c : ℕ) × Holds cells c k
unfolding keys_of
holds_from_contains [] k h = let e = contains-empty nat_cmp k in (cc)
holds_from_contains (value ∷ cells) k h =
    elim (cases_eq value 0) [
      | inl none ↦
          behind value cells k (holds_from_contains cells k (rw (ap (λ v. keys_of (v ∷ cells)) none ∙ keys_of-empty cells) at h))
      | inr some ↦
          elim (put_cases (keys_of cells) (key_in value) k (rw (keys_of-full value cells (omega arith)) at h)) [
            | inl it ↦ (0, (omega arith, omega arith))
            | inr later ↦ behind value cells k (holds_from_contains cells k later)
          ]
    ]

pub contains_from_holds : (cells : List ℕ) (c k : ℕ) → Holds cells c k → IsTrue (contains (keys_of cells) k)
contains_from_holds [] c k holds = absurd (omega (arith, holds.0))
contains_from_holds (value ∷ cells) zero k holds =
    let is : key_in value ≡ k = omega (arith, holds.1) in
    rw (keys_of-full value cells (omega (arith, holds.1)), is) (put_it (keys_of cells) k)
contains_from_holds (value ∷ cells) (suc c) k holds =
    let later : IsTrue (contains (keys_of cells) k) = contains_from_holds cells c k (omega (arith, holds.0), holds.1) in
    elim (cases_eq value 0) [
      | inl none ↦ rw (ap (λ v. keys_of (v ∷ cells)) none ∙ keys_of-empty cells) later
      | inr some ↦ rw (keys_of-full value cells (omega arith)) (put_kept (keys_of cells) (key_in value) k later)
    ]
