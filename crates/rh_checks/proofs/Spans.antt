-- The least and the greatest of numbers, one number after the other.
use Rattle.std.proofs.Common.{◌≡◌, ℕ, zero, suc, ◌+◌, ◌≤◌, min, max, List, [], ◌∷◌, ◌++◌, length, take, flat_map, Option, Some, inl, inr, refl, sym, ap, subst, ◌∙◌, arith, append_assoc, append-nil}
use Rattle.std.specs.Prelude.{◌↔◌, ◌==◌, Bool, Contains, IsTrue, slice_get}
use Rattle.std.proofs.lemmas.Bool.{cases_lt, eqb-true}
use Rattle.std.proofs.lemmas.List.Elements.{All-push, All-weaker, Contains-append_left, Contains-push}
use Rattle.rh_checks.specs.declared.sums.Span.{Span}
use Rattle.rh_checks.specs.Sums.{IsSpan}

-- the number is between the two
abbrev Between : (least greatest n : ℕ) → Type 0
Between least greatest n = (least ≤ n) × (n ≤ greatest)

module _ (before : List ℕ) (n : ℕ) (old new : Span) (is : IsSpan before (Some old)) (least : new.least ≡ min old.least n) (greatest : new.greatest ≡ max old.greatest n) where
  has_least : Contains (before ++ n ∷ []) new.least
  has_least =
      elim (cases_lt old.least n) [
        | inl lt ↦ subst (Contains (before ++ n ∷ [])) (sym (omega (arith, least, lt))) (Contains-append_left before (n ∷ []) old.least is.0)
        | inr le ↦ subst (Contains (before ++ n ∷ [])) (sym (omega (arith, least, le))) (Contains-push before n)
      ]

  has_greatest : Contains (before ++ n ∷ []) new.greatest
  has_greatest =
      elim (cases_lt old.greatest n) [
        | inl lt ↦ subst (Contains (before ++ n ∷ [])) (sym (omega (arith, greatest, lt))) (Contains-push before n)
        | inr le ↦ subst (Contains (before ++ n ∷ [])) (sym (omega (arith, greatest, le))) (Contains-append_left before (n ∷ []) old.greatest is.1)
      ]

  still : (x : ℕ) → Between old.least old.greatest x → Between new.least new.greatest x
  still x b = (omega (arith, least, b.0), omega (arith, greatest, b.1))

  pub one_more : IsSpan (before ++ n ∷ []) (Some new)
  one_more = (has_least, has_greatest, All-push (Between new.least new.greatest) before n (All-weaker (Between old.least old.greatest) (Between new.least new.greatest) still before is.2) (omega (arith, least), omega (arith, greatest)))

-- ---- pieces

same_some : {X : Type 0} (x y : X) → Some x ≡ Some y → x ≡ y
same_some x y h = cc

first_pieces : {X : Type 0} (items : X → List ℕ) (pieces : List X) (i : ℕ) (piece : X) → slice_get pieces i ≡ Some piece → flat_map items (take (suc i) pieces) ≡ flat_map items (take i pieces) ++ items piece
first_pieces items [] i piece is = absurd cc
first_pieces items (p ∷ pieces) zero piece is = append-nil (items p) ∙ ap items (same_some p piece is)
first_pieces items (p ∷ pieces) (suc i) piece is = ap (λ l. items p ++ l) (first_pieces items pieces i piece is) ∙ sym (append_assoc (items p) (flat_map items (take i pieces)) (items piece))

-- the span of one piece more
pub piece_more : {X : Type 0} (items : X → List ℕ) (pieces : List X) (i : ℕ) (piece : X) (span : Option Span) → slice_get pieces i ≡ Some piece → IsSpan (flat_map items (take i pieces) ++ items piece) span → IsSpan (flat_map items (take (i + 1) pieces)) span
piece_more items pieces i piece span is before =
    let next : suc i ≡ i + 1 = omega arith in
    subst (λ n. IsSpan (flat_map items (take n pieces)) span) next (subst (λ l. IsSpan l span) (sym (first_pieces items pieces i piece is)) before)

-- ---- a list of nothing

pub none_listed : {X : Type 0} (none : Bool) (xs : List X) → none ≡ (length xs == 0) → IsTrue none ↔ (xs ≡ [])
none_listed none [] is = (λ t. refl, λ same. is)
none_listed none (x ∷ xs) is = (λ t. absurd (omega (arith, eqb-true (suc (length xs)) 0 (sym is ∙ t))), λ same. absurd cc)
