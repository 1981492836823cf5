-- A loop that moves keys back by one.
use Rattle.std.proofs.Common.{◌≡◌, ℕ, ◌+◌, ◌<◌, inl, inr, refl, sym, ap, ◌∙◌, arith, List, length, set, get_or-set_same, get_or-set_other}
use Rattle.std.proofs.lemmas.Bool.{cases_eq}
use Rattle.rh_layout.specs.Round.{steps_round, cell_ahead, IsNext}
use Rattle.rh_layout.specs.Key.{key_in}
use Rattle.rh_layout.specs.Order.{home_of, home_in}
use Rattle.rh_layout.proofs.LayoutLemmas.{at}
use Rattle.rh_probe.specs.Segment.{IsAway}
use Rattle.rh_edit.specs.Pull.{IsPartOut, IsPulled}
use Rattle.rh_layout.proofs.RoundLemmas.{ahead_cases, ahead_below, cell_ahead-steps, steps-cell_ahead, next_below}

same_after : (n p c d : ℕ) → IsNext n p c → IsNext n p d → c ≡ d
same_after n p c d a b = grind arith

pub pull_none : (n : ℕ) (home : ℕ → ℕ) (h i : ℕ) (old : ℕ → ℕ) → IsPartOut n home h i i old old
pull_none n home h i old = record {
  begun = omega arith;
  before = λ c _ _. refl;
  moved = λ c d _ from upto. absurd (omega arith);
  after = λ c _ _. refl;
  away = λ c _ above upto. absurd (omega arith);
  full = λ c _ above upto. absurd (omega arith);
}

module _ (n : ℕ) (home : ℕ → ℕ) (h i t : ℕ) (old now new : ℕ → ℕ) (h_in : h < n) (t_in : t + 1 < n) (part : IsPartOut n home h i t old now) (here next : ℕ) (is_here : here ≡ cell_ahead n h t) (is_next : next ≡ cell_ahead n h (t + 1)) (kept : (c : ℕ) → c < n → (c ≡ here → ⊥) → new c ≡ now c) where
  here_in : here < n
  here_in = rw is_here (ahead_below n h t (omega arith))

  next_in : next < n
  next_in = rw is_next (ahead_below n h (t + 1) (omega arith))

  here_steps : steps_round n h here ≡ t
  here_steps = rw is_here (steps-cell_ahead n h t h_in (omega arith))

  next_steps : steps_round n h next ≡ t + 1
  next_steps = rw is_next (steps-cell_ahead n h (t + 1) h_in t_in)

  joined : IsNext n here next
  joined = grind (arith, ahead_cases n h t h_in (omega arith), ahead_cases n h (t + 1) h_in t_in, is_here, is_next)

  at_steps : (c d : ℕ) → c < n → d < n → steps_round n h c ≡ steps_round n h d → c ≡ d
  at_steps c d c_in d_in e = sym (cell_ahead-steps n h c h_in c_in) ∙ ap (cell_ahead n h) e ∙ cell_ahead-steps n h d h_in d_in

  elsewhere : (c : ℕ) → c < n → (steps_round n h c ≡ t → ⊥) → new c ≡ now c
  elsewhere c c_in ne = kept c c_in (λ e. ne (ap (steps_round n h) e ∙ here_steps))

  there : (c v : ℕ) → new here ≡ v → c < n → steps_round n h c ≡ t → new c ≡ v
  there c v written c_in e = ap new (at_steps c here c_in here_in (e ∙ sym here_steps)) ∙ written

  next_is : now next ≡ old next
  next_is = part.after next next_in (omega (arith, next_steps))

  pub pull_done : new here ≡ 0 → (0 < now next → home (now next) ≡ next) → IsPulled n home h i (t + 1) old new
  pull_done written stop = record {
    in_order = omega (arith, part.begun);
    in_table = t_in;
    out = record {
      before = λ c c_in less. elsewhere c c_in (omega (arith, part.begun)) ∙ part.before c c_in less;
      moved = λ c d step from below. elsewhere c (next_below n c d step).0 (omega arith) ∙ part.moved c d step from (omega arith);
      cleared = λ c c_in e. there c 0 written c_in (omega arith);
      after = λ c c_in past. elsewhere c c_in (omega arith) ∙ part.after c c_in (omega arith);
    };
    stop = λ c c_in e some.
        let is : c ≡ next = at_steps c next c_in next_in (e ∙ sym next_steps) in
        let same : now next ≡ old c = next_is ∙ ap old (sym is) in
        rw (← same) (stop (rw same some) ∙ sym is);
    away = λ c c_in above below. part.away c c_in above (omega arith);
    full = λ c c_in above below. part.full c c_in above (omega arith);
  }

  pub pull_more : new here ≡ now next → 0 < now next → (home (now next) ≡ next → ⊥) → IsPartOut n home h i (t + 1) old new
  pull_more written some off = record {
    begun = omega (arith, part.begun);
    before = λ c c_in less. elsewhere c c_in (omega (arith, part.begun)) ∙ part.before c c_in less;
    moved = λ c d step from below. elim (cases_eq (steps_round n h c) t) [
      | inl same ↦
          let c_in = (next_below n c d step).0 in
          let is : c ≡ here = at_steps c here c_in here_in (same ∙ sym here_steps) in
          let d_is : next ≡ d = same_after n here next d joined (rw is at step) in
          there c (now next) written c_in same ∙ next_is ∙ ap old d_is
      | inr other ↦ elsewhere c (next_below n c d step).0 other ∙ part.moved c d step from (omega arith)
    ];
    after = λ c c_in past. elsewhere c c_in (omega arith) ∙ part.after c c_in (omega arith);
    away = λ c c_in above upto. elim (cases_eq (steps_round n h c) (t + 1)) [
      | inl same ↦ let is : c ≡ next = at_steps c next c_in next_in (same ∙ sym next_steps) in λ e. off (ap home (next_is ∙ ap old (sym is)) ∙ e ∙ is)
      | inr other ↦ part.away c c_in above (omega arith)
    ];
    full = λ c c_in above upto. elim (cases_eq (steps_round n h c) (t + 1)) [
      | inl same ↦ let is : c ≡ next = at_steps c next c_in next_in (same ∙ sym next_steps) in let e : now next ≡ old c = next_is ∙ ap old (sym is) in omega arith
      | inr other ↦ part.full c c_in above (omega arith)
    ];
  }

-- ---- the loop's step, on lists

-- what can move back is a key that is not at home, as a number
pub movable_is : (b c value : ℕ) → IsAway b c value → (0 < value) × (home_in b value ≡ c → ⊥)
movable_is b c value away =
    let its : home_in b value ≡ home_of b away.0 = ap (home_of b) (omega (arith, away.1)) in
    (omega (arith, away.1), λ e. away.2 (sym its ∙ e))

pub unmovable_is : (b c value : ℕ) → (IsAway b c value → ⊥) → 0 < value → home_in b value ≡ c
unmovable_is b c value stays some =
    elim (cases_eq (home_in b value) c) [
      | inl same ↦ same
      | inr other ↦ absurd (stays (key_in value, omega arith, other))
    ]

module _ (b n h i t cell next : ℕ) (old now : List ℕ) (size : length now ≡ n) (h_in : h < n) (t_in : t + 1 < n) (part : IsPartOut n (home_in b) h i t (at old) (at now)) (is_cell : cell ≡ cell_ahead n h t) (is_next : next ≡ cell_ahead n h (t + 1)) where
  cell_in : cell < length now
  cell_in = rw (is_cell, size) (ahead_below n h t (omega arith))

  wrote : (value : ℕ) → at (set now cell value) cell ≡ value
  wrote value = let inside = cell_in in get_or-set_same now cell value 0 inside

  left : (value c : ℕ) → c < n → (c ≡ cell → ⊥) → at (set now cell value) c ≡ at now c
  left value c c_in ne = get_or-set_other now cell c value 0 ne

  pub pull_stops : (IsAway b next (at now next) → ⊥) → IsPulled n (home_in b) h i (t + 1) (at old) (at (set now cell 0))
  pull_stops stays = pull_done n (home_in b) h i t (at old) (at now) (at (set now cell 0)) h_in t_in part cell next is_cell is_next (left 0) (wrote 0) (unmovable_is b next (at now next) stays)

  pub pull_goes_on : IsAway b next (at now next) → IsPartOut n (home_in b) h i (t + 1) (at old) (at (set now cell (at now next)))
  pull_goes_on away =
      let moves = movable_is b next (at now next) away in
      pull_more n (home_in b) h i t (at old) (at now) (at (set now cell (at now next))) h_in t_in part cell next is_cell is_next (left (at now next)) (wrote (at now next)) moves.0 moves.1
