-- What holds of each key of a set, and sets without a number.
use Rattle.std.proofs.Common.{◌≡◌, ℕ, ◌^◌, ◌<◌, inl, inr, ◌∙◌, sym, arith, List, false, subst}
use Rattle.std.specs.Prelude.{IsTrue}
use Rattle.std.specs.FinSet as set
use Rattle.std.specs.FinSet.{contains}
use Rattle.rh_layout.specs.Key.{IsKey}
use Rattle.std.proofs.lemmas.Nat.{pow_pos}
use Rattle.rh_layout.specs.Layout.{Keys, Layout, keys_of}
use Rattle.rh_layout.proofs.LayoutLemmas.{layout_keys}
use Rattle.rh_grow.specs.Growth.{Fits}
use Rattle.rh_layout.specs.declared.limits.TheConstants.{MAX_KEY}
use Rattle.rh_layout.proofs.SetLemmas.{same_keys, not_true, put_cases, put_kept, out_cases, out_kept}
use Rattle.rh_set.specs.Inserting.{AreKeys}

-- a set that lost a number has only keys still
pub are_keys_out : (S T : Keys) (k : ℕ) → AreKeys S → T ≡ set.remove S k → AreKeys T
are_keys_out S T k all is q has = all q (out_cases S k q (subst (λ (U : Keys). IsTrue (contains U q)) is has)).1

-- so has one that got a key
pub are_keys_in : (S T : Keys) (k : ℕ) → IsKey k → AreKeys S → T ≡ set.insert S k → AreKeys T
are_keys_in S T k key all is q has =
    elim (put_cases S k q (subst (λ (U : Keys). IsTrue (contains U q)) is has)) [
      | inl it ↦ omega (arith, it, key)
      | inr before ↦ all q before
    ]

-- a set with a key that it has is the set
pub with_present : (S : Keys) (k : ℕ) → IsTrue (contains S k) → S ≡ set.insert S k
with_present S k there =
    same_keys S (set.insert S k)
    (λ q has. put_kept S k q has)
    (λ q has. elim (put_cases S k q has) [ inl it ↦ subst (λ (n : ℕ). IsTrue (contains S n)) (sym it) there | inr before ↦ before ])

-- a number that is no key is in no set
pub is_absent : (S : Keys) (k : ℕ) → AreKeys S → MAX_KEY < k → contains S k ≡ false
is_absent S k all large = not_true (contains S k) (λ has. absurd (omega (arith, all k has)))

-- so a set without it is the set
pub without_absent : (S : Keys) (k : ℕ) → AreKeys S → MAX_KEY < k → S ≡ set.remove S k
without_absent S k all large =
    same_keys S (set.remove S k)
    (λ q has. out_kept S k q (λ same. absurd (omega (arith, all q has))) has)
    (λ q has. (out_cases S k q has).1)

-- so many keys leave a cell of a table that they fit free
pub fits_below : (b n : ℕ) → Fits b n → n < 2 ^ b
fits_below b n fits = omega (arith, fits, pow_pos b)

-- the keys of a layout that was made of the cells of another
pub keys_kept : (cells new : List ℕ) (b : ℕ) (S : Keys) → keys_of cells ≡ S → Layout new b (keys_of cells) → keys_of new ≡ S
keys_kept cells new b S are layout = sym (layout_keys new b (keys_of cells) layout) ∙ are
