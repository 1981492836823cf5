-- Which keys are left when one is taken out.
use Rattle.std.proofs.Common.{◌≡◌, ℕ, ◌+◌, ◌<◌, inl, inr, sym, ◌∙◌, arith}
use Rattle.std.proofs.lemmas.Bool.{cases_lt, cases_order}
use Rattle.rh_layout.specs.Round.{steps_round}
use Rattle.rh_edit.specs.Pull.{IsTakenOut}
use Rattle.rh_layout.proofs.RoundLemmas.{next_cases, has_cell_before, has_cell_next, next_below}
use Rattle.rh_edit.proofs.RemoveLemmas.{LeavesFrom}
use Rattle.rh_layout.proofs.HeldLemmas.{IsHeld}

module _ (n : ℕ) (home : ℕ → ℕ) (low : (k : ℕ) → home k < n) (i j k : ℕ) (old new : ℕ → ℕ) (leaves : LeavesFrom n home i j k old) (out : IsTakenOut n (home k) i j old new) where
  -- What c holds, if a key, stood there or one cell on, and not where k stood.
  pub left_from : (c : ℕ) → c < n → 0 < new c → (d : ℕ) × (d < n) × (old d ≡ new c) × (steps_round n (home k) d ≡ i → ⊥)
  left_from c c_in some =
      elim (cases_lt (steps_round n (home k) c) i) [
        | inl below ↦ (c, c_in, sym (out.before c c_in below), λ e. omega arith)
        | inr from ↦
            elim (cases_lt (steps_round n (home k) c) j) [
              | inr past ↦ (c, c_in, sym (out.after c c_in past), λ e. omega (arith, leaves.in_order))
              | inl within ↦
                  elim (cases_lt (steps_round n (home k) c + 1) j) [
                    | inr last ↦ let z : new c ≡ 0 = out.cleared c c_in (omega arith) in absurd (omega arith)
                    | inl more ↦
                        let d = has_cell_next n c c_in in
                        elim (next_cases n (home k) c d.0 (low k) d.1) [
                          | inl turn ↦ absurd (omega (arith, turn.1, leaves.in_table))
                          | inr on ↦ (d.0, (next_below n c d.0 d.1).1, sym (out.moved c d.0 d.1 from more), λ e. omega (arith, on.1))
                        ]
                  ]
            ]
      ]

  -- Each other key is left.
  pub still_left : (x : ℕ) → 0 < x → (x ≡ k → ⊥) → IsHeld n old x → IsHeld n new x
  still_left x some other held =
      let c = held.0 in
      elim (cases_order (steps_round n (home k) c) i) [
        | inl same ↦ absurd (other (sym held.2 ∙ leaves.stands c held.1 same))
        | inr (inl below) ↦ (c, held.1, out.before c held.1 below ∙ held.2)
        | inr (inr above) ↦
            elim (cases_lt (steps_round n (home k) c) j) [
              | inr past ↦ (c, held.1, out.after c held.1 past ∙ held.2)
              | inl within ↦
                  let p = has_cell_before n c held.1 in
                  elim (next_cases n (home k) p.0 c (low k) p.1) [
                    | inl turn ↦ absurd (omega (arith, turn.2))
                    | inr on ↦ (p.0, (next_below n p.0 c p.1).0, out.moved p.0 c p.1 (omega (arith, on.1)) (omega (arith, on.1)) ∙ held.2)
                  ]
            ]
      ]
