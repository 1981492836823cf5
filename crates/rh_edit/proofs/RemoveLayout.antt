-- A layout with a key taken out.
use Rattle.std.proofs.Common.{◌≡◌, ℕ, ◌^◌, ◌<◌, inl, inr, sym, ap, ◌∙◌, subst, arith, List, length, false}
use Rattle.std.specs.Prelude.{IsTrue}
use Rattle.std.specs.FinSet as set
use Rattle.std.specs.FinSet.{contains}
use Rattle.std.proofs.lemmas.Bool.{cases_order}
use Rattle.rh_layout.specs.Round.{steps_round, cell_ahead}
use Rattle.rh_layout.specs.Key.{cell_of}
use Rattle.rh_layout.specs.Order.{home_of, home_in}
use Rattle.rh_layout.specs.Layout.{Keys, Holds, Layout, IsLayout, HasFree, keys_of}
use Rattle.rh_layout.proofs.RoundLemmas.{ahead_below, cell_ahead-steps, steps-cell_ahead}
use Rattle.rh_layout.proofs.OrderLemmas.{ordered_from_stepwise}
use Rattle.rh_layout.proofs.SetLemmas.{same_keys, out_cases, out_kept}
use Rattle.rh_layout.proofs.KeySetLemmas.{holds_from_contains, contains_from_holds}
use Rattle.rh_layout.proofs.LayoutLemmas.{at, low_of, low_in, home_in-cell_of, layout_ordered, layout_from_ordered, with_same_keys}
use Rattle.rh_probe.specs.Look.{IsProbeLength}
use Rattle.rh_probe.proofs.LookLemmas.{spot_is, fresh_from_probe}
use Rattle.rh_edit.specs.Pull.{IsPulled}
use Rattle.rh_edit.proofs.RemoveLemmas.{LeavesFrom, stepwise-taken}
use Rattle.rh_edit.proofs.HeldOut.{left_from, still_left}

-- A set that does not have the key is not changed by its removal.
pub out_again : (S : Keys) (k : ℕ) → contains S k ≡ false → S ≡ set.remove S k
out_again S k none = same_keys S (set.remove S k) (λ q has. out_kept S k q (λ e. let there = rw e at has in (cc)) has) (λ q has. (out_cases S k q has).1)

-- A free cell lies after the cell where k stands.
pub free_past_key : (b : ℕ) (cells : List ℕ) (k i : ℕ) (S : Keys) → Layout cells b S → IsProbeLength b cells k i → at cells (cell_ahead (2 ^ b) (home_of b k) i) ≡ cell_of k → (free : HasFree cells) → i < steps_round (2 ^ b) (home_of b k) free.0
free_past_key b cells k i S layout probe is free =
    let c_in : free.0 < 2 ^ b = omega (arith, free.1, layout.size) in
    elim (cases_order (steps_round (2 ^ b) (home_of b k) free.0) i) [
      | inl same ↦
          let spot : cell_ahead (2 ^ b) (home_of b k) i ≡ free.0 = ap (cell_ahead (2 ^ b) (home_of b k)) (sym same) ∙ cell_ahead-steps (2 ^ b) (home_of b k) free.0 (low_of b layout.bits k) c_in in
          let none : cell_of k ≡ 0 = sym is ∙ ap (at cells) spot ∙ free.2 in
          absurd (omega arith)
      | inr (inl passed) ↦ let beaten = probe.passed free.0 c_in passed in absurd (omega (arith, beaten.1.1, free.2))
      | inr (inr past) ↦ past
    ]

module _ (b : ℕ) (old new : List ℕ) (k i j : ℕ) (S : Keys) (layout : Layout old b S) (i_in : i < 2 ^ b) (is : at old (cell_ahead (2 ^ b) (home_of b k) i) ≡ cell_of k) (pulled_of : IsPulled (2 ^ b) (home_in b) (home_of b k) i j (at old) (at new)) (same_size : length new ≡ length old) where
  abbrev n : ℕ
  n = 2 ^ b

  abbrev h : ℕ
  h = home_in b (cell_of k)

  abbrev spot : ℕ
  spot = cell_ahead (2 ^ b) (home_in b (cell_of k)) i

  low : (value : ℕ) → home_in b value < 2 ^ b
  low = low_in b layout.bits

  pulled : IsPulled (2 ^ b) (home_in b) (home_in b (cell_of k)) i j (at old) (at new)
  pulled = subst (λ h. IsPulled (2 ^ b) (home_in b) h i j (at old) (at new)) (sym (home_in-cell_of b k)) pulled_of

  stands : at old spot ≡ cell_of k
  stands = ap (λ h. at old (cell_ahead (2 ^ b) h i)) (home_in-cell_of b k) ∙ is

  spot_in : spot < n
  spot_in = ahead_below n h i (omega (arith, i_in))

  spot_steps : steps_round n h spot ≡ i
  spot_steps = steps-cell_ahead n h i (low (cell_of k)) i_in

  only_spot : (c : ℕ) → c < n → steps_round n h c ≡ i → spot ≡ c
  only_spot c c_in e = ap (cell_ahead n h) (sym e) ∙ cell_ahead-steps n h c (low (cell_of k)) c_in

  leaves : LeavesFrom (2 ^ b) (home_in b) i j (cell_of k) (at old)
  leaves = record {
    is_key = omega arith;
    in_order = pulled.in_order;
    in_table = pulled.in_table;
    stands = λ c c_in e. ap (at old) (sym (only_spot c c_in e)) ∙ stands;
    stop = pulled.stop;
    away = pulled.away;
    full = pulled.full;
  }

  size : length new ≡ 2 ^ b
  size = same_size ∙ layout.size

  -- each key in the new cells is one of S, and not k
  stood : (c q : ℕ) → Holds new c q → (q ≡ k → ⊥) × IsTrue (contains S q)
  stood c q holds =
      let from = left_from n (home_in b) low i j (cell_of k) (at old) (at new) leaves pulled.out c (omega (arith, holds.0, size)) (omega (arith, holds.1)) in
      let was : Holds old from.0 q = (omega (arith, from.1, layout.size), from.2 ∙ holds.1) in (
        λ e. from.3 (ap (steps_round n h) (layout.once from.0 spot k (was.0, was.1 ∙ ap (λ r. cell_of r) e) (omega (arith, spot_in, layout.size), stands)) ∙ spot_steps),
        layout.no_other from.0 q was,
      )

  made : IsLayout b new
  made =
      layout_from_ordered b new layout.bits size (λ c q holds. layout.keys q (stood c q holds).1)
      (ordered_from_stepwise n (home_in b) (at new) low (stepwise-taken n (home_in b) low i j (cell_of k) (at old) (at new) leaves pulled.out (layout_ordered old b S layout)))

  keys_after : keys_of new ≡ set.remove S k
  keys_after =
      same_keys (keys_of new) (set.remove S k)
      (λ q has.
      let there = holds_from_contains new q has in
      let was = stood there.0 q there.1 in
      out_kept S k q was.0 was.1)
      (λ q has.
      let two = out_cases S k q has in
      let held = layout.held q two.1 in
      let there = still_left n (home_in b) low i j (cell_of k) (at old) (at new) leaves pulled.out (cell_of q) (omega arith) (λ e. two.0 (omega arith)) (held.0, omega (arith, held.1.0, layout.size), held.1.1) in
      contains_from_holds new there.0 q (omega (arith, there.1, size), there.2))

  pub remove_held : IsTrue (contains S k) × Layout new b (set.remove S k)
  remove_held = (layout.no_other spot k (omega (arith, layout.size, spot_in), stands), with_same_keys new b (set.remove S k) made keys_after)

-- ---- the same in the words of the code

pub absent_code : (b k first i cell value : ℕ) (cells : List ℕ) → IsLayout b cells → first ≡ home_of b k → IsProbeLength b cells k i → value ≡ cell_of k → cell ≡ cell_ahead (length cells) first i → (at cells cell ≡ value → ⊥) → contains (keys_of cells) k ≡ false
absent_code b k first i cell value cells layout start probe is_value is_cell other =
    fresh_from_probe b cells k i (keys_of cells) layout probe (λ e. other (ap (at cells) (spot_is b (length cells) k first i cell layout.size start is_cell) ∙ e ∙ sym is_value))

pub free_code : (b k first i cell value : ℕ) (cells : List ℕ) → IsLayout b cells → first ≡ home_of b k → IsProbeLength b cells k i → value ≡ cell_of k → cell ≡ cell_ahead (length cells) first i → at cells cell ≡ value → (free : HasFree cells) → i < steps_round (length cells) first free.0
free_code b k first i cell value cells layout start probe is_value is_cell same free =
    let past = free_past_key b cells k i (keys_of cells) layout probe (ap (at cells) (sym (spot_is b (length cells) k first i cell layout.size start is_cell)) ∙ same ∙ is_value) free in
    rw (layout.size, start) past

pub remove_code : (b k first i cell value : ℕ) (old new : List ℕ) → IsLayout b old → first ≡ home_of b k → IsProbeLength b old k i → value ≡ cell_of k → cell ≡ cell_ahead (length old) first i → at old cell ≡ value → (j : ℕ) → IsPulled (length old) (home_in b) first i j (at old) (at new) → length new ≡ length old → IsTrue (contains (keys_of old) k) × Layout new b (set.remove (keys_of old) k)
remove_code b k first i cell value old new layout start probe is_value is_cell same j pulled same_size =
    let spot = spot_is b (length old) k first i cell layout.size start is_cell in
    let pulled_home : IsPulled (2 ^ b) (home_in b) (home_of b k) i j (at old) (at new) = rw (layout.size, start) at pulled in
    remove_held b old new k i j (keys_of old) layout probe.in_table (ap (at old) (sym spot) ∙ same ∙ is_value) pulled_home same_size
