-- A loop that puts a key in and moves on what it finds.
use Rattle.std.proofs.Common.{◌≡◌, ℕ, ◌+◌, ◌<◌, inl, inr, refl, sym, ap, ◌∙◌, arith}
use Rattle.std.proofs.lemmas.Bool.{cases_eq}
use Rattle.rh_layout.specs.Round.{steps_round, cell_ahead, IsNext}
use Rattle.rh_edit.specs.Put.{IsPartPut, IsPushed}
use Rattle.rh_layout.proofs.RoundLemmas.{cell_ahead-steps, steps-cell_ahead, next_cases, next_below}

pub part_none : (n h i k : ℕ) (old : ℕ → ℕ) → IsPartPut n h i i k k old old
part_none n h i k old = record {
  begun = omega arith;
  before = λ c _ _. refl;
  here = λ c _ _ less. absurd (omega arith);
  moved = λ p c _ above below. absurd (omega arith);
  after = λ c _ _. refl;
  full = λ c _ above below. absurd (omega arith);
  first = λ _. refl;
  later = λ c _ less. absurd (omega arith);
}

module _ (n h i t k carry : ℕ) (old now new : ℕ → ℕ) (h_in : h < n) (t_in : t < n) (part : IsPartPut n h i t k carry old now) (at : ℕ) (is_at : at ≡ cell_ahead n h t) (written : new at ≡ carry) (kept : (c : ℕ) → c < n → (c ≡ at → ⊥) → new c ≡ now c) where
  at_steps : steps_round n h at ≡ t
  at_steps = rw is_at (steps-cell_ahead n h t h_in t_in)

  elsewhere : (c : ℕ) → c < n → (steps_round n h c ≡ t → ⊥) → new c ≡ now c
  elsewhere c c_in ne = kept c c_in (λ e. ne (ap (steps_round n h) e ∙ at_steps))

  there : (c : ℕ) → c < n → steps_round n h c ≡ t → new c ≡ carry
  there c c_in e =
      let is : c ≡ at = sym (cell_ahead-steps n h c h_in c_in) ∙ ap (cell_ahead n h) e ∙ sym is_at in
      ap new is ∙ written

  carried : (p c : ℕ) → IsNext n p c → i < t → steps_round n h c ≡ t → carry ≡ old p
  carried p c next less e =
      elim (next_cases n h p c h_in next) [
        | inl turn ↦ absurd (omega (arith, turn.2))
        | inr on ↦ part.later p (next_below n p c next).0 less (omega (arith, on.1))
      ]

  -- What stood there is 0: the key is in.
  pub part_done : now at ≡ 0 → IsPushed n h i t k old new
  part_done free = record {
    in_order = part.begun;
    in_table = t_in;
    put = record {
      before = λ c c_in less. elsewhere c c_in (omega (arith, part.begun)) ∙ part.before c c_in less;
      here = λ c c_in e. elim (cases_eq i t) [
        | inl same ↦ there c c_in (e ∙ same) ∙ part.first same
        | inr other ↦ elsewhere c c_in (omega arith) ∙ part.here c c_in e (omega (arith, part.begun))
      ];
      moved = λ p c next above upto. elim (cases_eq (steps_round n h c) t) [
        | inl same ↦ there c (next_below n p c next).1 same ∙ carried p c next (omega arith) same
        | inr other ↦ elsewhere c (next_below n p c next).1 other ∙ part.moved p c next above (omega arith)
      ];
      after = λ c c_in past. elsewhere c c_in (omega arith) ∙ part.after c c_in (omega arith);
    };
    free = λ c c_in e. let is : c ≡ at = sym (cell_ahead-steps n h c h_in c_in) ∙ ap (cell_ahead n h) e ∙ sym is_at in sym (part.after c c_in (omega arith)) ∙ ap now is ∙ free;
    full = part.full;
  }

  -- It is a key: that is to be put into the next cell.
  pub part_more : 0 < now at → IsPartPut n h i (t + 1) k (now at) old new
  part_more some = record {
    begun = omega (arith, part.begun);
    before = λ c c_in less. elsewhere c c_in (omega (arith, part.begun)) ∙ part.before c c_in less;
    here = λ c c_in e _. elim (cases_eq i t) [
      | inl same ↦ there c c_in (e ∙ same) ∙ part.first same
      | inr other ↦ elsewhere c c_in (omega arith) ∙ part.here c c_in e (omega (arith, part.begun))
    ];
    moved = λ p c next above upto. elim (cases_eq (steps_round n h c) t) [
      | inl same ↦ there c (next_below n p c next).1 same ∙ carried p c next (omega arith) same
      | inr other ↦ elsewhere c (next_below n p c next).1 other ∙ part.moved p c next above (omega arith)
    ];
    after = λ c c_in past. elsewhere c c_in (omega arith) ∙ part.after c c_in (omega arith);
    full = λ c c_in from upto. elim (cases_eq (steps_round n h c) t) [
      | inl same ↦ let is : c ≡ at = sym (cell_ahead-steps n h c h_in c_in) ∙ ap (cell_ahead n h) same ∙ sym is_at in
          let e : old c ≡ now at = sym (part.after c c_in (omega arith)) ∙ ap now is in omega arith
      | inr other ↦ part.full c c_in from (omega arith)
    ];
    first = λ e. absurd (omega (arith, part.begun));
    later = λ c c_in _ e. let is : c ≡ at = sym (cell_ahead-steps n h c h_in c_in) ∙ ap (cell_ahead n h) (omega arith) ∙ sym is_at in sym (ap now is) ∙ part.after c c_in (omega arith);
  }
