-- The part in which a key stands, and the parts after one key more.
use Rattle.std.proofs.Common.{◌≡◌, ◌≢◌, ◌∙◌, ap, sym, refl, ℕ, ◌+◌, ◌-◌, ◌*◌, ◌/◌, ◌%◌, ◌^◌, ◌<◌, ◌≤◌, inl, inr, arith, Bool, true, false, cond, List, [], ◌∷◌, ◌++◌, length, take, get_or, Option, Some, None}
use Rattle.std.specs.Prelude.{◌==◌, min, ◌&&◌}
use Rattle.std.proofs.Math.Nat.{add-mul, mul-le-mul_right}
use Rattle.std.proofs.lemmas.Bool.{cases_lt, eq-eqb, le-ltb, lt-ltb, ne_eqb}
use Rattle.std.proofs.lemmas.List.{append-nil, take_more}
use Rattle.std.proofs.lemmas.List.Elements.{filter-append}
use Rattle.std.proofs.lemmas.Nat.{pow_pos}
use Rattle.rh_combine.specs.declared.cut.Grid.{Grid}
use Rattle.rh_layout.specs.Range.{stands}
use Rattle.rh_combine.specs.Grid.{in_part, is_at, stands_in}

module _ (from to k w : ℕ) (above : from ≤ k) (below : k < to) where
  abbrev here : ℕ → Bool
  here q = stands (min to (from + q * w)) (min to (from + (q + 1) * w)) k

  and_none : (t : Bool) → (t && false) ≡ false
  and_none true = refl
  and_none false = refl

  part_is : (p r : ℕ) → p * w + r ≡ k - from → r < w → (q : ℕ) → here q ≡ (p == q)
  part_is p r is small q =
      let next_p : (p + 1) * w ≡ p * w + 1 * w = add-mul p 1 w in
      let next_q : (q + 1) * w ≡ q * w + 1 * w = add-mul q 1 w in
      elim (cases_lt p q) [
        | inl less ↦
            let over : (p + 1) * w ≤ q * w = mul-le-mul_right w (omega (arith, less)) in
            let early : k < min to (from + q * w) = omega (arith, over, next_p, is, small, below, above) in
            rw (lt-ltb k (min to (from + q * w)) early, ne_eqb p q (λ e. omega (arith, e, less))) refl
        | inr no_less ↦
            elim (cases_lt q p) [
              | inl more ↦
                  let over : (q + 1) * w ≤ p * w = mul-le-mul_right w (omega (arith, more)) in
                  let late : min to (from + (q + 1) * w) ≤ k = omega (arith, over, is, above) in
                  rw (le-ltb k (min to (from + (q + 1) * w)) late, ne_eqb p q (λ e. omega (arith, e, more))) (and_none _)
              | inr no_more ↦
                  let same : p ≡ q = omega (arith, no_less, no_more) in
                  let same_product : p * w ≡ q * w = ap (λ n. n * w) same in
                  let begun : min to (from + q * w) ≤ k = omega (arith, same_product, is, above) in
                  let not_past : k < min to (from + (q + 1) * w) = omega (arith, same_product, next_q, is, small, below, above) in
                  rw (le-ltb k (min to (from + q * w)) begun, lt-ltb k (min to (from + (q + 1) * w)) not_past, eq-eqb p q same) refl
            ]
      ]

pub part_by_shift : (grid : Grid) (key : ℕ) → grid.from ≤ key → key < grid.to → (q : ℕ) → stands_in grid q key ≡ ((key - grid.from) / 2 ^ grid.shift == q)
part_by_shift grid key above below q =
    let w : ℕ = 2 ^ grid.shift in
    let some : 0 < 2 ^ grid.shift = pow_pos grid.shift in
    part_is grid.from grid.to key (2 ^ grid.shift) above below ((key - grid.from) / 2 ^ grid.shift) ((key - grid.from) % 2 ^ grid.shift) (omega (arith, some)) (omega (arith, some)) q

-- ---- one key more

module _ (grid : Grid) (keys : List ℕ) (i : ℕ) (inside : i < length keys) (p : ℕ) where
  more : (t : Bool) → stands_in grid p (get_or keys i 0) ≡ t → in_part grid p (take (i + 1) keys) ≡ in_part grid p (take i keys) ++ cond t (get_or keys i 0 ∷ []) []
  more t is =
      ap (in_part grid p) (take_more keys i 0 inside)
      ∙ filter-append (stands_in grid p) (take i keys) (get_or keys i 0 ∷ [])
      ∙ ap (λ b. in_part grid p (take i keys) ++ cond b (get_or keys i 0 ∷ []) []) is

  pub key_more : (part : ℕ) (found : Option ℕ) (old new : List ℕ) → ((q : ℕ) → stands_in grid q (get_or keys i 0) ≡ is_at found q) → found ≡ Some part → p ≡ part
      → old ≡ in_part grid p (take i keys) → new ≡ old ++ get_or keys i 0 ∷ [] → new ≡ in_part grid p (take (i + 1) keys)
  key_more part found old new part_of is here before after =
      after ∙ ap (λ l. l ++ get_or keys i 0 ∷ []) before
      ∙ sym (more true (part_of p ∙ ap (λ o. is_at o p) is ∙ eq-eqb part p (sym here)))

  same_still : stands_in grid p (get_or keys i 0) ≡ false → in_part grid p (take i keys) ≡ in_part grid p (take (i + 1) keys)
  same_still is = sym (more false is ∙ append-nil (in_part grid p (take i keys)))

  pub key_elsewhere : (part : ℕ) (found : Option ℕ) (old new : List ℕ) → ((q : ℕ) → stands_in grid q (get_or keys i 0) ≡ is_at found q) → found ≡ Some part → p ≢ part
      → old ≡ in_part grid p (take i keys) → new ≡ old → new ≡ in_part grid p (take (i + 1) keys)
  key_elsewhere part found old new part_of is there before after =
      after ∙ before ∙ same_still (part_of p ∙ ap (λ o. is_at o p) is ∙ ne_eqb part p (λ e. there (sym e)))

  pub key_nowhere : (found : Option ℕ) (old new : List ℕ) → ((q : ℕ) → stands_in grid q (get_or keys i 0) ≡ is_at found q) → found ≡ None
      → old ≡ in_part grid p (take i keys) → new ≡ old → new ≡ in_part grid p (take (i + 1) keys)
  key_nowhere found old new part_of is before after =
      after ∙ before ∙ same_still (part_of p ∙ ap (λ o. is_at o p) is)
