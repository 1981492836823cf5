-- Arithmetic on cells in a circle.
use Rattle.std.proofs.Common.{◌≡◌, ℕ, ◌+◌, ◌-◌, ◌%◌, ◌<◌, ◌≤◌, ◌⊎◌, inl, inr, refl, arith}
use Rattle.std.proofs.Math.Nat.{mod-eq_of_lt, mod-lt, mod-eq-sub-mod}
use Rattle.std.proofs.lemmas.Bool.{cases_lt, cases_eq}
use Rattle.rh_layout.specs.Round.{steps_round, cell_ahead, IsNext}

pub steps_below : (n from to : ℕ) → 0 < n → steps_round n from to < n
unfolding steps_round
steps_below n from to h = mod-lt (to + n - from) h

-- a number below twice n, reduced
pub reduced : (n x : ℕ) → x < n + n → ((x < n) × (x % n ≡ x)) ⊎ ((n ≤ x) × (x % n + n ≡ x))
reduced n x p =
    elim (cases_lt x n) [
      | inl low ↦ inl (low, mod-eq_of_lt low)
      | inr high ↦ let e : x % n ≡ (x - n) % n = mod-eq-sub-mod high in let f : x - n < n = omega arith in let g : (x - n) % n ≡ x - n = mod-eq_of_lt f in inr (high, omega arith)
    ]

-- the steps to a cell ahead, and to one behind
pub steps_cases : (n from to : ℕ) → from < n → to < n → ((from ≤ to) × (steps_round n from to + from ≡ to)) ⊎ ((to < from) × (steps_round n from to + from ≡ to + n))
unfolding steps_round
steps_cases n from to p q = grind (arith, reduced n (to + n - from) (omega arith))

-- the same, one way each
pub steps_ahead : (n from to : ℕ) → from < n → to < n → from ≤ to → to - from ≡ steps_round n from to
steps_ahead n from to p q h = grind (arith, steps_cases n from to p q)

pub steps_behind : (n from to : ℕ) → from < n → to < n → to < from → to + n - from ≡ steps_round n from to
steps_behind n from to p q h = grind (arith, steps_cases n from to p q)

pub ahead_cases : (n from i : ℕ) → from < n → i < n → ((from + i < n) × (cell_ahead n from i ≡ from + i)) ⊎ ((n ≤ from + i) × (cell_ahead n from i + n ≡ from + i))
unfolding cell_ahead
ahead_cases n from i p q = reduced n (from + i) (omega arith)

-- The steps to a cell lead to it, and the cell that i steps lead to is i steps away.
pub cell_ahead-steps : (n from to : ℕ) → from < n → to < n → cell_ahead n from (steps_round n from to) ≡ to
cell_ahead-steps n from to p q = grind (arith, steps_cases n from to p q, ahead_cases n from (steps_round n from to) p (steps_below n from to (omega arith)))

pub ahead_below : (n from i : ℕ) → 0 < n → cell_ahead n from i < n
unfolding cell_ahead
ahead_below n from i h = mod-lt (from + i) h

-- one step more
pub cell_ahead-next : (n from i : ℕ) → from < n → i < n → (cell_ahead n from i + 1) % n ≡ cell_ahead n from (i + 1)
unfolding cell_ahead
cell_ahead-next n from i p q =
    grind (arith, reduced n (from + i) (omega arith), reduced n (from + (i + 1)) (omega arith), reduced n ((from + i) % n + 1) (omega (arith, mod-lt (from + i) {m = n} (omega arith))))

pub steps-cell_ahead : (n from i : ℕ) → from < n → i < n → steps_round n from (cell_ahead n from i) ≡ i
steps-cell_ahead n from i p q = grind (arith, ahead_cases n from i p q, steps_cases n from (cell_ahead n from i) p (ahead_below n from i (omega arith)))

pub steps_next : (n h p c : ℕ) → h < n → IsNext n p c → (h ≡ c → ⊥) → steps_round n h c ≡ steps_round n h p + 1
steps_next n h p c low next away = grind (arith, steps_cases n h c low (grind arith), steps_cases n h p low (grind arith))

pub steps_home : (n h : ℕ) → h < n → steps_round n h h ≡ 0
steps_home n h low = grind (arith, steps_cases n h h low low)

pub home_of_steps : (n h c : ℕ) → h < n → c < n → steps_round n h c ≡ 0 → h ≡ c
home_of_steps n h c low in' e = grind (arith, steps_cases n h c low in')

-- a full turn less one
pub steps_full : (n h p c : ℕ) → h < n → IsNext n p c → h ≡ c → steps_round n h p + 1 ≡ n
steps_full n h p c low next e = grind (arith, steps_cases n h p low (grind arith))

pub steps_at_home : (n h c : ℕ) → c < n → h ≡ c → steps_round n h c ≡ 0
steps_at_home n h c in' e = grind (arith, steps_cases n h c (omega arith) in')

-- each cell comes after one
pub has_cell_before : (n c : ℕ) → c < n → (p : ℕ) × IsNext n p c
has_cell_before n c c_in =
    elim (cases_lt 0 c) [
      | inl pos ↦ (c - 1, inl (omega arith, c_in))
      | inr zero ↦ (n - 1, inr (omega arith, omega arith))
    ]

-- Counted from h, the next cell is one further on, or a full turn is done.
pub next_cases : (n h p c : ℕ) → h < n → IsNext n p c → ((h ≡ c) × (steps_round n h p + 1 ≡ n) × (steps_round n h c ≡ 0)) ⊎ ((h ≡ c → ⊥) × (steps_round n h c ≡ steps_round n h p + 1))
next_cases n h p c low next =
    let c_in : c < n = grind arith in
    elim (cases_eq h c) [
      | inl e ↦ inl (e, steps_full n h p c low next e, steps_at_home n h c c_in e)
      | inr ne ↦ inr (ne, steps_next n h p c low next ne)
    ]

pub next_below : (n p c : ℕ) → IsNext n p c → (p < n) × (c < n)
next_below n p c next = (grind arith, grind arith)

pub has_cell_next : (n p : ℕ) → p < n → (c : ℕ) × IsNext n p c
has_cell_next n p p_in =
    elim (cases_lt (p + 1) n) [
      | inl low ↦ (p + 1, inl (refl, low))
      | inr high ↦ (0, inr (omega arith, refl))
    ]
