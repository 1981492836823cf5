-- A key taken out, with the keys after it moved back by one, up to a free cell or a key at home.
use Rattle.std.proofs.Common.{◌≡◌, ℕ, ◌+◌, ◌<◌, ◌≤◌, inl, inr, arith}
use Rattle.std.proofs.lemmas.Bool.{cases_lt, cases_eq, cases_order}
use Rattle.rh_edit.specs.Pull.{IsTakenOut}
use Rattle.rh_layout.specs.Round.{steps_round, IsNext}
use Rattle.rh_layout.proofs.RoundLemmas.{steps_at_home, home_of_steps, next_cases, has_cell_next, next_below}
use Rattle.rh_layout.proofs.OrderLemmas.{Ahead, HoldsAhead, IsOrdered, IsStepwise, ahead_back, ahead_trans, stepwise_from_ordered}
use Rattle.rh_edit.proofs.InsertLemmas.{through}

-- k stands i steps after its home, and the first cell behind it that is free, or holds a key at home, is j steps after that home
pub record LeavesFrom (n : ℕ) (home : ℕ → ℕ) (i j k : ℕ) (old : ℕ → ℕ) : Type 0 where
  pub is_key : 0 < k
  pub in_order : i < j
  pub in_table : j < n
  pub stands : (c : ℕ) → c < n → steps_round n (home k) c ≡ i → old c ≡ k
  pub stop : (c : ℕ) → c < n → steps_round n (home k) c ≡ j → 0 < old c → home (old c) ≡ c
  pub away : (c : ℕ) → c < n → i < steps_round n (home k) c → steps_round n (home k) c < j → home (old c) ≡ c → ⊥
  pub full : (c : ℕ) → c < n → i < steps_round n (home k) c → steps_round n (home k) c < j → 0 < old c

module _ (n : ℕ) (home : ℕ → ℕ) (low : (k : ℕ) → home k < n) (i j k : ℕ) (old new : ℕ → ℕ) (leaves : LeavesFrom n home i j k old) (out : IsTakenOut n (home k) i j old new) (ordered : IsOrdered n home old) where
  old_step : IsStepwise n home old
  old_step = stepwise_from_ordered n home old low ordered

  behind : (p c : ℕ) → IsNext n p c → p < n → c < n → steps_round n (home k) c ≡ i → (x : ℕ) → Ahead n home c k x → (home x ≡ c → ⊥) → (0 < old p) × Ahead n home p (old p) x
  behind p c next p_in c_in at_i x k_ahead off_x =
      let is : old c ≡ k = leaves.stands c c_in at_i in
      let off_k : home k ≡ c → ⊥ = λ e. off_x (home_of_steps n (home x) c (low x) c_in (grind (arith, k_ahead, steps_at_home n (home k) c c_in e))) in
      let got = old_step p c next (rw is leaves.is_key) (rw is off_k) in
      (got.0, ahead_trans n home p (old p) k x (rw is at got.1) (ahead_back n home low p c k x next off_k off_x k_ahead))

  -- in the cell that k left
  at_gap : (p c : ℕ) → IsNext n p c → p < n → c < n → steps_round n (home k) c ≡ i → 0 < new c → (home (new c) ≡ c → ⊥) → new p ≡ old p → HoldsAhead n home new p (new c)
  at_gap p c next p_in c_in at_i some off same_p =
      let d = has_cell_next n c c_in in
      elim (cases_lt (i + 1) j) [
        | inr last ↦ let z : new c ≡ 0 = out.cleared c c_in (omega (arith, leaves.in_order)) in absurd (omega arith)
        | inl more ↦
            elim (next_cases n (home k) c d.0 (low k) d.1) [
              | inl turn ↦ absurd (omega (arith, turn.1, leaves.in_table))
              | inr on ↦
                  let d_in : d.0 < n = (next_below n c d.0 d.1).1 in
                  let x = old d.0 in
                  let is : new c ≡ old d.0 = out.moved c d.0 d.1 (omega arith) (omega arith) in
                  let off_d : home (old d.0) ≡ d.0 → ⊥ = leaves.away d.0 d_in (omega (arith, on.1)) (omega (arith, on.1)) in
                  let some_d : 0 < old d.0 = leaves.full d.0 d_in (omega (arith, on.1)) (omega (arith, on.1)) in
                  let k_ahead : Ahead n home c k (old d.0) = rw (leaves.stands c c_in at_i) at ((old_step c d.0 d.1 some_d off_d).1) in
                  through n home new p c (old p) (old d.0) same_p is (λ _ off_c. behind p c next p_in c_in at_i (old d.0) k_ahead off_c) some off
            ]
      ]

  -- between two keys that both moved back
  both_back : (p c : ℕ) → IsNext n p c → p < n → c < n → steps_round n (home k) c ≡ steps_round n (home k) p + 1 → i ≤ steps_round n (home k) p → steps_round n (home k) c + 1 < j → 0 < new c → (home (new c) ≡ c → ⊥) → HoldsAhead n home new p (new c)
  both_back p c next p_in c_in step from_i more some off =
      let d = has_cell_next n c c_in in
      elim (next_cases n (home k) c d.0 (low k) d.1) [
        | inl turn ↦ absurd (omega (arith, turn.1, leaves.in_table))
        | inr on ↦
            let d_in : d.0 < n = (next_below n c d.0 d.1).1 in
            let off_d : home (old d.0) ≡ d.0 → ⊥ = leaves.away d.0 d_in (omega (arith, on.1)) (omega (arith, on.1)) in
            let some_d : 0 < old d.0 = leaves.full d.0 d_in (omega (arith, on.1)) (omega (arith, on.1)) in
            let off_c : home (old c) ≡ c → ⊥ = leaves.away c c_in (omega arith) (omega arith) in
            let some_c : 0 < old c = leaves.full c c_in (omega arith) (omega arith) in
            let got : HoldsAhead n home old c (old d.0) = old_step c d.0 d.1 some_d off_d in
            through n home new p c (old c) (old d.0) (out.moved p c next from_i (omega arith)) (out.moved c d.0 d.1 (omega arith) more)
            (λ _ off_x. (some_c, ahead_back n home low p c (old c) (old d.0) next off_c off_x got.1)) some off
      ]

  -- where both cells are as they were
  both_stay : (p c : ℕ) → IsNext n p c → new p ≡ old p → new c ≡ old c → 0 < new c → (home (new c) ≡ c → ⊥) → HoldsAhead n home new p (new c)
  both_stay p c next same_p same_c some off = through n home new p c (old p) (old c) same_p same_c (λ x y. old_step p c next x y) some off

  past_gap : (p c : ℕ) → IsNext n p c → p < n → c < n → steps_round n (home k) c ≡ steps_round n (home k) p + 1 → i < steps_round n (home k) c → 0 < new c → (home (new c) ≡ c → ⊥) → HoldsAhead n home new p (new c)
  past_gap p c next p_in c_in step above some off =
      elim (cases_order (steps_round n (home k) c) j) [
        | inl at_j ↦
            let same : new c ≡ old c = out.after c c_in (omega arith) in
            absurd ((rw same at off) (leaves.stop c c_in at_j (rw same at some)))
        | inr (inr past) ↦ both_stay p c next (out.after p p_in (omega arith)) (out.after c c_in (omega arith)) some off
        | inr (inl within) ↦
            elim (cases_lt (steps_round n (home k) c + 1) j) [
              | inl more ↦ both_back p c next p_in c_in step (omega arith) more some off
              | inr last ↦ let z : new c ≡ 0 = out.cleared c c_in (omega arith) in absurd (omega arith)
            ]
      ]

  pub stepwise-taken : IsStepwise n home new
  stepwise-taken p c next some away =
      let p_in : p < n = (next_below n p c next).0 in
      let c_in : c < n = (next_below n p c next).1 in
      elim (next_cases n (home k) p c (low k) next) [
        | inl turn ↦
            let same_p : new p ≡ old p = out.after p p_in (omega (arith, turn.1, leaves.in_table)) in
            elim (cases_eq i 0) [
              | inl zero_i ↦ at_gap p c next p_in c_in (omega (arith, turn.2)) some away same_p
              | inr pos_i ↦ both_stay p c next same_p (out.before c c_in (omega (arith, turn.2))) some away
            ]
        | inr on ↦
            elim (cases_order (steps_round n (home k) c) i) [
              | inl at_i ↦ at_gap p c next p_in c_in at_i some away (out.before p p_in (omega (arith, on.1)))
              | inr (inl below) ↦ both_stay p c next (out.before p p_in (omega (arith, on.1))) (out.before c c_in below) some away
              | inr (inr above) ↦ past_gap p c next p_in c_in on.1 above some away
            ]
      ]
