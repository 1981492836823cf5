-- Sets of keys: what they hold after a key was added or taken out, and when two are one.
use Rattle.std.proofs.Common.{◌≡◌, ℕ, ◌⊎◌, inl, inr, refl, sym, ◌∙◌, arith, Bool, true, false}
use Rattle.std.specs.Prelude.{IsTrue, nat_eq, not, ◌&&◌, ◌||◌}
use Rattle.std.specs.Cmp.{nat_cmp_total, unsigned_tied}
use Rattle.std.specs.FinSet as set
use Rattle.std.specs.FinSet.{contains, contains-insert, contains-remove, nat_cmp-IsAntisymmetric}
use Rattle.std.proofs.lemmas.Bool.{eqb-true}
use Rattle.std.proofs.lemmas.Bool.Decides.{nat_tests}
use Rattle.rh_layout.specs.Layout.{Keys}

pub same_tests : (a b : Bool) → (a ≡ true → b ≡ true) → (b ≡ true → a ≡ true) → a ≡ b
same_tests true true p q = refl
same_tests true false p q = sym (p refl)
same_tests false true p q = q refl
same_tests false false p q = refl

pub not_true : (a : Bool) → (a ≡ true → ⊥) → a ≡ false
not_true true h = absurd (h refl)
not_true false h = refl

or_cases : (a b : Bool) → (a || b) ≡ true → (a ≡ true) ⊎ (b ≡ true)
or_cases true b h = inl refl
or_cases false b h = inr h

or_right : (a b : Bool) → b ≡ true → (a || b) ≡ true
or_right true b h = refl
or_right false b h = h

-- two sets with the same keys are one
pub same_keys : (S T : Keys) → ((q : ℕ) → IsTrue (contains S q) → IsTrue (contains T q)) → ((q : ℕ) → IsTrue (contains T q) → IsTrue (contains S q)) → S ≡ T
same_keys S T to from = set.same_set nat_cmp_total nat_cmp-IsAntisymmetric S T (λ q. same_tests (contains S q) (contains T q) (to q) (from q))

contains_put : (S : Keys) (k q : ℕ) → contains (set.insert S k) q ≡ (nat_eq q k || contains S q)
contains_put S k q = contains-insert nat_cmp_total S k q ∙ (λ i. unsigned_tied q k i || contains S q)

pub put_cases : (S : Keys) (k q : ℕ) → IsTrue (contains (set.insert S k) q) → (q ≡ k) ⊎ IsTrue (contains S q)
put_cases S k q h = elim (or_cases (nat_eq q k) (contains S q) (sym (contains_put S k q) ∙ h)) [ inl e ↦ inl (eqb-true q k e) | inr e ↦ inr e ]

pub put_it : (S : Keys) (k : ℕ) → IsTrue (contains (set.insert S k) k)
put_it S k = contains_put S k k ∙ grind (arith, nat_tests)

pub put_kept : (S : Keys) (k q : ℕ) → IsTrue (contains S q) → IsTrue (contains (set.insert S k) q)
put_kept S k q h = contains_put S k q ∙ or_right (nat_eq q k) (contains S q) h

both_true : (a b : Bool) → (not a && b) ≡ true → (a ≡ false) × (b ≡ true)
both_true true b h = (cc)
both_true false b h = (refl, h)

both_back : (a b : Bool) → a ≡ false → b ≡ true → (not a && b) ≡ true
both_back a b p q = rw (p, q) refl

contains_out : (S : Keys) (k q : ℕ) → contains (set.remove S k) q ≡ (not (nat_eq q k) && contains S q)
contains_out S k q = contains-remove nat_cmp_total S k q ∙ (λ i. not (unsigned_tied q k i) && contains S q)

pub out_cases : (S : Keys) (k q : ℕ) → IsTrue (contains (set.remove S k) q) → (q ≡ k → ⊥) × IsTrue (contains S q)
out_cases S k q h =
    let two = both_true (nat_eq q k) (contains S q) (sym (contains_out S k q) ∙ h) in
    (λ e. grind (arith, nat_tests, two.0, e), two.1)

pub out_kept : (S : Keys) (k q : ℕ) → (q ≡ k → ⊥) → IsTrue (contains S q) → IsTrue (contains (set.remove S k) q)
out_kept S k q ne h = contains_out S k q ∙ both_back (nat_eq q k) (contains S q) (grind (arith, nat_tests)) h
