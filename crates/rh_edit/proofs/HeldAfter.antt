-- Which values a circle of cells holds after one was put in.
use Rattle.std.proofs.Common.{◌≡◌, ℕ, ◌<◌, ◌≤◌, ◌⊎◌, inl, inr, refl, sym, ◌∙◌, arith}
use Rattle.std.proofs.lemmas.Bool.{cases_lt, cases_order}
use Rattle.rh_layout.specs.Round.{steps_round, cell_ahead, IsNext}
use Rattle.rh_layout.proofs.RoundLemmas.{ahead_below, steps-cell_ahead, next_cases, has_cell_before, has_cell_next, next_below}
use Rattle.rh_layout.proofs.HeldLemmas.{IsHeld}
use Rattle.rh_edit.specs.Put.{IsPutIn}
use Rattle.rh_edit.proofs.InsertLemmas.{GoesAt}

module _ (n : ℕ) (home : ℕ → ℕ) (low : (k : ℕ) → home k < n) (h i j k : ℕ) (old new : ℕ → ℕ) (h_in : h < n) (goes : GoesAt n home h i j k old) (put : IsPutIn n h i j k old new) where
  -- where what c holds stood before: c itself, or the cell before, or it is k
  abbrev pub CameFrom : (p c : ℕ) → Type 0
  CameFrom p c = (p < n) × (old p ≡ new c) × (((p ≡ c) × ((steps_round n h c < i) ⊎ (j < steps_round n h c))) ⊎ (IsNext n p c × (i < steps_round n h c) × (steps_round n h c ≤ j)))

  pub came_from : (c : ℕ) → c < n → ((steps_round n h c ≡ i) × (new c ≡ k)) ⊎ ((p : ℕ) × CameFrom p c)
  came_from c c_in =
      elim (cases_order (steps_round n h c) i) [
        | inl same ↦ inl (same, put.here c c_in same)
        | inr (inl below) ↦ inr (c, (c_in, sym (put.before c c_in below), inl (refl, inl below)))
        | inr (inr above) ↦
            elim (cases_lt j (steps_round n h c)) [
              | inl past ↦ inr (c, (c_in, sym (put.after c c_in past), inl (refl, inr past)))
              | inr within ↦ let b = has_cell_before n c c_in in inr (b.0, ((next_below n b.0 c b.1).0, sym (put.moved b.0 c b.1 above within), inr (b.1, above, within)))
            ]
      ]

  pub held_after : (x : ℕ) → IsHeld n new x → IsHeld n old x ⊎ (x ≡ k)
  held_after x held =
      elim (came_from held.0 held.1) [
        | inl it ↦ inr (sym held.2 ∙ it.1)
        | inr from ↦ inl (from.0, from.1.0, from.1.1 ∙ held.2)
      ]

  pub put_held : IsHeld n new k
  put_held =
      let e = cell_ahead n h i in
      let i_in : i < n = omega (arith, goes.in_order, goes.second_free) in
      (e, ahead_below n h i (omega arith), put.here e (ahead_below n h i (omega arith)) (steps-cell_ahead n h i h_in i_in))

  pub still_held : (x : ℕ) → 0 < x → IsHeld n old x → IsHeld n new x
  still_held x some held =
      let c = held.0 in
      elim (cases_lt (steps_round n h c) i) [
        | inl below ↦ (c, held.1, put.before c held.1 below ∙ held.2)
        | inr not_below ↦
            elim (cases_order (steps_round n h c) j) [
              | inl free ↦ let z : old c ≡ 0 = goes.free c held.1 free in absurd (omega (arith, held.2))
              | inr (inr past) ↦ (c, held.1, put.after c held.1 past ∙ held.2)
              | inr (inl within) ↦
                  let d = has_cell_next n c held.1 in
                  elim (next_cases n h c d.0 h_in d.1) [
                    | inl turn ↦ absurd (omega (arith, turn.1, goes.second_free))
                    | inr on ↦ (d.0, (next_below n c d.0 d.1).1, put.moved c d.0 d.1 (omega (arith, on.1)) (omega (arith, on.1)) ∙ held.2)
                  ]
            ]
      ]
