-- A key put in where it goes, with the keys from there on moved up by one.
use Rattle.std.proofs.Common.{◌≡◌, ℕ, ◌+◌, ◌<◌, ◌≤◌, inl, inr, ap, ◌∙◌, arith}
use Rattle.std.proofs.lemmas.Bool.{cases_lt, cases_eq, cases_order}
use Rattle.rh_edit.specs.Put.{IsPutIn}
use Rattle.rh_layout.specs.Round.{steps_round, cell_ahead, IsNext}
use Rattle.rh_layout.proofs.RoundLemmas.{ahead_below, steps-cell_ahead, next_cases, has_cell_before}
use Rattle.rh_layout.proofs.OrderLemmas.{Ahead, HoldsAhead, IsOrdered, IsStepwise, ahead_on, ahead_home, stepwise_from_ordered, not_full_turn}

-- k goes i steps after h, and the first free cell from there on is j steps after h
pub record GoesAt (n : ℕ) (home : ℕ → ℕ) (h i j k : ℕ) (old : ℕ → ℕ) : Type 0 where
  pub at_home : home k ≡ h
  pub is_key : 0 < k
  pub in_order : i ≤ j
  pub second_free : j + 1 < n
  pub free : (c : ℕ) → c < n → steps_round n h c ≡ j → old c ≡ 0
  pub full : (c : ℕ) → c < n → steps_round n h c < j → 0 < old c
  pub passed : (c : ℕ) → c < n → steps_round n h c < i → Ahead n home c (old c) k
  pub stops : (c : ℕ) → c < n → steps_round n h c ≡ i → i < j → Ahead n home c k (old c)

pub through : (n : ℕ) (home f : ℕ → ℕ) (p c x y : ℕ) → f p ≡ x → f c ≡ y → (0 < y → (home y ≡ c → ⊥) → (0 < x) × Ahead n home p x y) → 0 < f c → (home (f c) ≡ c → ⊥) → HoldsAhead n home f p (f c)
through n home f p c x y ex ey gives some away =
    let got = gives (rw ey at some) (rw ey at away) in
    rw (ex, ey) got

module _ (n : ℕ) (home : ℕ → ℕ) (low : (k : ℕ) → home k < n) (h i j k : ℕ) (old new : ℕ → ℕ) (h_in : h < n) (goes : GoesAt n home h i j k old) (put : IsPutIn n h i j k old new) (ordered : IsOrdered n home old) where
  -- A key y that stands before another, x, in the cell before c, both before the free cell: one cell on, y still stands before x.
  still_before : (q p : ℕ) → IsNext n q p → p < n → 0 < steps_round n h p → steps_round n h p < j → (h ≡ p → ⊥) → steps_round n h p ≡ steps_round n h q + 1 → (0 < old q) × Ahead n home p (old q) (old p)
  still_before q p next p_in _ below _ step =
      let q_in : q < n = grind arith in
      let e = cell_ahead n h j in
      let e_in : e < n = ahead_below n h j (omega arith) in
      let es : steps_round n h e ≡ j = steps-cell_ahead n h j h_in (omega (arith, goes.second_free)) in
      let some_q : 0 < old q = goes.full q q_in (omega arith) in
      let some_p : 0 < old p = goes.full p p_in below in
      let y_away : home (old q) ≡ p → ⊥ = not_full_turn n home old low e e_in (goes.free e e_in es) ordered q p next some_q in
      elim (cases_eq (home (old p)) p) [
        | inl at ↦ (some_q, ahead_home n home low p (old q) (old p) p_in y_away at)
        | inr off ↦ (some_q, ahead_on n home low q p (old q) (old p) next y_away off (stepwise_from_ordered n home old low ordered q p next some_p off).1)
      ]

  -- A key that was moved on stands behind the one that was moved on before it.
  shifted : (p c : ℕ) → IsNext n p c → p < n → i < steps_round n h p → (h ≡ c → ⊥) → steps_round n h c ≡ steps_round n h p + 1 → i < steps_round n h c → steps_round n h c ≤ j → 0 < new c → (home (new c) ≡ c → ⊥) → HoldsAhead n home new p (new c)
  shifted p c next p_in p_above off step above within some away =
      let before_p = has_cell_before n p p_in in
      elim (next_cases n h before_p.0 p h_in before_p.1) [
        | inl at_h ↦ absurd (omega (arith, at_h.2))
        | inr on ↦ through n home new p c (old before_p.0) (old p) (put.moved before_p.0 p before_p.1 p_above (omega arith)) (put.moved p c next above within) (λ _ _. still_before before_p.0 p before_p.1 p_in (omega arith) (omega arith) on.0 on.1) some away
      ]

  -- A key right after the free cell is at home.
  after_free : (p c : ℕ) → IsNext n p c → p < n → c < n → steps_round n h p ≡ j → j < steps_round n h c → 0 < new c → (home (new c) ≡ c → ⊥) → ⊥
  after_free p c next p_in c_in p_free past some away =
      let same : new c ≡ old c = put.after c c_in past in
      let none : old p ≡ 0 = goes.free p p_in p_free in
      let got = stepwise_from_ordered n home old low ordered p c next (rw same at some) (rw same at away) in
      omega (arith, got.0)

  -- what the two cells hold, by where c is, counted from h
  stepwise_at : (p c : ℕ) → IsNext n p c → p < n → c < n → (h ≡ c → ⊥) → steps_round n h c ≡ steps_round n h p + 1 → 0 < new c → (home (new c) ≡ c → ⊥) → HoldsAhead n home new p (new c)
  stepwise_at p c next p_in c_in off step some away =
      let old_step = stepwise_from_ordered n home old low ordered in
      elim (cases_order (steps_round n h c) i) [
        | inl at_i ↦ through n home new p c (old p) k (put.before p p_in (omega arith)) (put.here c c_in at_i) (λ _ _. (goes.full p p_in (omega (arith, goes.in_order)), goes.passed p p_in (omega arith))) some away
        | inr (inl below) ↦ through n home new p c (old p) (old c) (put.before p p_in (omega arith)) (put.before c c_in below) (λ x y. old_step p c next x y) some away
        | inr (inr above) ↦
            elim (cases_lt j (steps_round n h c)) [
              | inr within ↦
                  elim (cases_eq (steps_round n h p) i) [
                    | inl p_at ↦ through n home new p c k (old p) (put.here p p_in p_at) (put.moved p c next above within) (λ _ _. (goes.is_key, goes.stops p p_in p_at (omega arith))) some away
                    | inr p_off ↦ shifted p c next p_in (omega arith) off step above within some away
                  ]
              | inl past ↦
                  elim (cases_eq (steps_round n h p) j) [
                    | inl p_free ↦ through n home new p c 0 (old c) (absurd (after_free p c next p_in c_in p_free past some away)) (put.after c c_in past) (λ x y. absurd (after_free p c next p_in c_in p_free past some away)) some away
                    | inr p_past ↦ through n home new p c (old p) (old c) (put.after p p_in (omega arith)) (put.after c c_in past) (λ x y. old_step p c next x y) some away
                  ]
            ]
      ]

  -- at h itself
  turned : (p c : ℕ) → IsNext n p c → p < n → c < n → h ≡ c → steps_round n h p + 1 ≡ n → steps_round n h c ≡ 0 → 0 < new c → (home (new c) ≡ c → ⊥) → HoldsAhead n home new p (new c)
  turned p c next p_in c_in at_h full_turn start some away =
      let same_p : new p ≡ old p = put.after p p_in (omega (arith, goes.second_free)) in
      elim (cases_lt 0 i) [
        | inl later ↦ through n home new p c (old p) (old c) same_p (put.before c c_in (omega arith)) (λ x y. stepwise_from_ordered n home old low ordered p c next x y) some away
        | inr first ↦ let it : new c ≡ k = put.here c c_in (omega arith) in absurd (away (ap home it ∙ goes.at_home ∙ at_h))
      ]

  pub stepwise-put : IsStepwise n home new
  stepwise-put p c next some away =
      let p_in : p < n = grind arith in
      let c_in : c < n = grind arith in
      elim (next_cases n h p c h_in next) [
        | inr on ↦ stepwise_at p c next p_in c_in on.0 on.1 some away
        | inl round ↦ turned p c next p_in c_in round.0 round.1 round.2 some away
      ]
