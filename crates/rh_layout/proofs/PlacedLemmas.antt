-- A layout, from what each cell holds beside the one before it, and back.
use Rattle.std.proofs.Common.{◌≡◌, ℕ, ◌+◌, ◌-◌, ◌^◌, ◌<◌, inl, inr, sym, ap, ◌∙◌, subst, arith, List, length}
use Rattle.std.proofs.lemmas.Bool.{cases_lt}
use Rattle.rh_layout.specs.Round.{steps_round, cell_behind, IsNext}
use Rattle.rh_layout.specs.Key.{IsKey, IsBits, cell_of, key_in}
use Rattle.rh_layout.specs.Order.{home_of, home_in, dist_of, Beats}
use Rattle.rh_layout.specs.Layout.{Keys, Holds, Layout, IsLayout, IsPlaced, IsBeatenAt}
use Rattle.rh_layout.proofs.RoundLemmas.{reduced, steps_at_home, home_of_steps, next_below}
use Rattle.rh_layout.proofs.OrderLemmas.{HoldsAhead, IsStepwise, ordered_from_stepwise, stepwise_from_ordered}
use Rattle.rh_layout.proofs.LayoutLemmas.{at, low_in, holds_its, ahead_from_beaten, beaten_from_ahead, layout_ordered, layout_from_ordered}

pub back_next : (n c : ℕ) → c < n → IsNext n (cell_behind n c) c
unfolding cell_behind
back_next n c c_in = grind (arith, reduced n (c + n - 1) (omega arith))

pub back_one : (n c : ℕ) → c < n → 0 < c → c - 1 ≡ cell_behind n c
back_one n c c_in some = grind (arith, back_next n c c_in)

pub back_round : (n c : ℕ) → c < n → c ≡ 0 → n - 1 ≡ cell_behind n c
back_round n c c_in none = grind (arith, back_next n c c_in)

pub ruleset back = (back_one, back_round)

same_before : (n p q c : ℕ) → IsNext n p c → IsNext n q c → p ≡ q
same_before n p q c a b = grind arith

-- ---- what one cell shows

module _ (b : ℕ) (cells : List ℕ) (c k : ℕ) (holds : Holds cells c k) where
  its_key : (q : ℕ) → Holds cells c q → k ≡ q
  its_key q other = omega (arith, holds.1, other.1)

  pub unplaced_out_of_range : (IsKey k → ⊥) → IsPlaced b cells c → ⊥
  unplaced_out_of_range out placed = out (placed k holds).0

  pub placed_behind : (p j : ℕ) → p ≡ cell_behind (2 ^ b) c → IsKey k → Holds cells p j → Beats b p j k → IsPlaced b cells c
  placed_behind p j is key before beats q other = rw (← its_key q other, ← is) (key, λ _. (j, before, beats))

  pub beats_from_placed : (p j : ℕ) → p ≡ cell_behind (2 ^ b) c → 0 < dist_of b c k → at cells p ≡ cell_of j → IsPlaced b cells c → Beats b p j k
  beats_from_placed p j is far before placed =
      let beaten = (placed k holds).1 far in
      let same : beaten.0 ≡ j = omega (arith, ap (at cells) is, beaten.1.1) in
      rw (same, ← is) at beaten.2

pub placed_more : (b : ℕ) (cells : List ℕ) (i : ℕ) → ((c : ℕ) → c < i → IsPlaced b cells c) → IsPlaced b cells i → (c : ℕ) → c < i + 1 → IsPlaced b cells c
placed_more b cells i before here c below k holds =
    elim (cases_lt c i) [
      | inl less ↦ before c less k holds
      | inr last ↦ let is : i ≡ c = omega arith in (rw is at here) k holds
    ]

-- ---- the whole table

pub layout_from_placed : (b : ℕ) (cells : List ℕ) → IsBits b → length cells ≡ 2 ^ b → ((c : ℕ) → c < 2 ^ b → IsPlaced b cells c) → IsLayout b cells
layout_from_placed b cells fits size placed =
    layout_from_ordered b cells fits size (λ c k holds. (placed c (omega (arith, holds.0)) k holds).0)
    (ordered_from_stepwise (2 ^ b) (home_in b) (at cells) (low_in b fits) stepwise)
  where
    stepwise : IsStepwise (2 ^ b) (home_in b) (at cells)
    stepwise p c next some away =
        let c_in : c < 2 ^ b = (next_below (2 ^ b) p c next).1 in
        let h = home_in b (at cells c) in
        let is : cell_behind (2 ^ b) c ≡ p = same_before (2 ^ b) (cell_behind (2 ^ b) c) p c (back_next (2 ^ b) c c_in) next in
        let far : 0 < steps_round (2 ^ b) h c = grind (arith, home_of_steps (2 ^ b) h c (low_in b fits (at cells c)) c_in) in
        let beaten = (placed c c_in (key_in (at cells c)) (holds_its b cells c (omega (arith, size)) some)).1 far in
        let same : cell_of (key_in (at cells c)) ≡ at cells c = omega arith in
        rw (is, same) at (ahead_from_beaten b cells (cell_behind (2 ^ b) c) (key_in (at cells c)) beaten)

pub placed_from_layout : (b : ℕ) (cells : List ℕ) (S : Keys) → Layout cells b S → (c : ℕ) → c < 2 ^ b → IsPlaced b cells c
placed_from_layout b cells S layout c c_in k holds = (layout.keys k (layout.no_other c k holds), beaten)
  where
    beaten : 0 < steps_round (2 ^ b) (home_of b k) c → IsBeatenAt cells b (cell_behind (2 ^ b) c) k
    beaten far =
        let next = back_next (2 ^ b) c c_in in
        let back_in : cell_behind (2 ^ b) c < 2 ^ b = (next_below (2 ^ b) (cell_behind (2 ^ b) c) c next).0 in
        let home_is : home_in b (at cells c) ≡ home_of b k = ap (home_of b) (omega (arith, holds.1)) in
        let away : home_in b (at cells c) ≡ c → ⊥ = λ e. omega (arith, steps_at_home (2 ^ b) (home_of b k) c c_in (sym home_is ∙ e)) in
        let step = stepwise_from_ordered (2 ^ b) (home_in b) (at cells) (low_in b layout.bits) (layout_ordered cells b S layout) (cell_behind (2 ^ b) c) c next (omega (arith, holds.1)) away in
        beaten_from_ahead b cells (cell_behind (2 ^ b) c) k (omega (arith, layout.size)) (subst (HoldsAhead (2 ^ b) (home_in b) (at cells) (cell_behind (2 ^ b) c)) holds.1 step)
