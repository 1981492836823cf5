-- The test of a layout tells just what it is to be one.
use Rattle.std.proofs.Common.{◌≡◌, ℕ, zero, suc, ◌^◌, ◌<◌, ◌≤◌, ◌⊎◌, inl, inr, arith, refl, List, length, Bool, false}
use Rattle.std.proofs.lemmas.Bool.{and_from, and_parts, cases_eq, cases_lt, eq-eqb, eqb-true, le-leb, leb-true}
use Rattle.std.proofs.lemmas.Bool.Decides.{Decides-and, Decides-eqb, Decides-like, Decides-ltb, Decides-not, Decides-or, same_from_decides}
use Rattle.std.specs.Bool.{Decides}
use Rattle.std.specs.Prelude.{nat_le}
use Rattle.rh_layout.specs.declared.limits.TheConstants.{MAX_KEY}
use Rattle.rh_layout.specs.Round.{cell_behind}
use Rattle.rh_layout.specs.Key.{key_in}
use Rattle.rh_layout.specs.Order.{dist_of, Beats}
use Rattle.rh_layout.specs.Layout.{IsLayout, IsPlaced, keys_of}
use Rattle.rh_layout.specs.Test.{are_placed, beats_at, is_beaten, is_placed, layout_test, may_stand}
use Rattle.rh_layout.proofs.LayoutLemmas.{at}
use Rattle.rh_layout.proofs.RoundLemmas.{next_below}
use Rattle.rh_layout.proofs.PlacedLemmas.{back_next, layout_from_placed, placed_from_layout}

decides_le : (a b : ℕ) → Decides (nat_le a b) (a ≤ b)
decides_le a b = (leb-true a b, le-leb a b)

decides_beats : (b c j k : ℕ) → Decides (beats_at b c j k) (Beats b c j k)
decides_beats b c j k =
    Decides-or _ _ (Decides-ltb (dist_of b c k) (dist_of b c j)) (Decides-and _ _ (Decides-eqb (dist_of b c j) (dist_of b c k)) (Decides-ltb j k))

decides_beaten : (b c value k : ℕ) → Decides (is_beaten b c value k) ((value ≡ 0 → ⊥) × Beats b c (key_in value) k)
decides_beaten b c value k = Decides-and _ _ (Decides-not _ (Decides-eqb value 0)) (decides_beats b c (key_in value) k)

-- what `may_stand` tests
abbrev MayStand : (b c value before : ℕ) → Type 0
MayStand b c value before =
    (value ≡ 0) ⊎ ((key_in value ≤ MAX_KEY) × ((dist_of b c (key_in value) ≡ 0) ⊎ ((before ≡ 0 → ⊥) × Beats b (cell_behind (2 ^ b) c) (key_in before) (key_in value))))

decides_stand : (b c value before : ℕ) → Decides (may_stand b c value before) (MayStand b c value before)
decides_stand b c value before =
    Decides-or _ _ (Decides-eqb value 0) (Decides-and _ _ (decides_le (key_in value) MAX_KEY) (Decides-or _ _ (Decides-eqb (dist_of b c (key_in value)) 0) (decides_beaten b (cell_behind (2 ^ b) c) before (key_in value))))

module _ (b : ℕ) (cells : List ℕ) (size : length cells ≡ 2 ^ b) (c : ℕ) (c_in : c < 2 ^ b) where
  abbrev p : ℕ
  p = cell_behind (2 ^ b) c

  p_in : p < length cells
  p_in = omega (arith, size, (next_below (2 ^ b) p c (back_next (2 ^ b) c c_in)).0)

  placed_from_stand : MayStand b c (at cells c) (at cells p) → IsPlaced b cells c
  placed_from_stand (inl none) k holds = absurd (omega (arith, none, holds.1))
  placed_from_stand (inr (key, seen)) k holds =
      let same : key_in (at cells c) ≡ k = omega (arith, holds.1) in (
        rw same at key,
        λ away. elim seen [
          | inl home ↦ absurd (omega (arith, away, rw same at home))
          | inr beaten ↦ (key_in (at cells p), (p_in, omega (arith, beaten.0)), rw same at beaten.1)
        ],
      )

  stand_from_placed : IsPlaced b cells c → MayStand b c (at cells c) (at cells p)
  stand_from_placed placed =
      elim (cases_eq (at cells c) 0) [
        | inl none ↦ inl none
        | inr some ↦
            let own = placed (key_in (at cells c)) (omega (arith, size, c_in), omega (arith, some)) in
            inr (
              own.0,
              elim (cases_eq (dist_of b c (key_in (at cells c))) 0) [
                | inl home ↦ inl home
                | inr away ↦
                    let beaten = own.1 (omega (arith, away)) in
                    let same : beaten.0 ≡ key_in (at cells p) = omega (arith, beaten.1.1) in
                    inr (λ none. omega (arith, none, beaten.1.1), rw same at beaten.2)
              ],
            )
      ]

  decides_placed : Decides (is_placed b cells c) (IsPlaced b cells c)
  decides_placed = Decides-like _ placed_from_stand stand_from_placed (decides_stand b c (at cells c) (at cells p))

decides_all : (b : ℕ) (cells : List ℕ) (n : ℕ) → length cells ≡ 2 ^ b → n ≤ 2 ^ b → Decides (are_placed b cells n) ((c : ℕ) → c < n → IsPlaced b cells c)
unfolding are_placed
decides_all b cells zero size inside = (λ _ c below. absurd (omega (arith, below)), λ _. refl)
decides_all b cells (suc n) size inside =
    Decides-like _
    (λ both c below. elim (cases_lt c n) [
      | inl before ↦ both.0 c before
      | inr last ↦ let is : n ≡ c = omega (arith, last, below) in rw is at both.1
    ])
    (λ all. (λ c below. all c (omega (arith, below)), all n (omega arith)))
    (Decides-and _ _ (decides_all b cells n size (omega (arith, inside))) (decides_placed b cells size n (omega (arith, inside))))

pub layout_decided : (b : ℕ) (cells : List ℕ) → Decides (layout_test b cells) (IsLayout b cells)
unfolding layout_test
layout_decided b cells = (
  λ is.
      let parts = and_parts _ _ is in
      let size = eqb-true _ _ (and_parts _ _ parts.1).0 in
      let limits = and_parts _ _ parts.0 in
      layout_from_placed b cells (leb-true _ _ limits.0, leb-true _ _ limits.1) size ((decides_all b cells (2 ^ b) size (omega arith)).0 (and_parts _ _ parts.1).1),
  λ layout.
      and_from _ _
      (and_from _ _ (le-leb _ _ layout.bits.0) (le-leb _ _ layout.bits.1))
      (and_from _ _ (eq-eqb _ _ layout.size) ((decides_all b cells (2 ^ b) layout.size (omega arith)).1 (placed_from_layout b cells (keys_of cells) layout))),
)

pub tested : (b : ℕ) (cells : List ℕ) (r : Bool) → Decides r (IsLayout b cells) → r ≡ layout_test b cells
tested b cells r decided = same_from_decides r (layout_test b cells) decided (layout_decided b cells)

pub not_tested : (b : ℕ) (cells : List ℕ) → (IsLayout b cells → ⊥) → false ≡ layout_test b cells
not_tested b cells other = tested b cells false ((λ h. absurd cc), λ layout. absurd (other layout))
