-- A layout with a key put in.
use Rattle.std.proofs.Common.{◌≡◌, ℕ, ◌+◌, ◌^◌, ◌<◌, ◌≤◌, ◌⊎◌, inl, inr, sym, ap, ◌∙◌, arith, List, length, false}
use Rattle.std.specs.Prelude.{IsTrue}
use Rattle.std.specs.FinSet as set
use Rattle.std.specs.FinSet.{contains}
use Rattle.std.proofs.lemmas.Bool.{cases_lt}
use Rattle.rh_layout.specs.Round.{steps_round, cell_ahead}
use Rattle.rh_layout.specs.Key.{IsKey, cell_of}
use Rattle.rh_layout.specs.Order.{home_of, home_in}
use Rattle.rh_layout.specs.Layout.{Keys, Holds, Layout, IsLayout, HasFree, HasTwoFree, keys_of}
use Rattle.rh_layout.proofs.RoundLemmas.{steps_below, ahead_below, cell_ahead-steps}
use Rattle.rh_layout.proofs.OrderLemmas.{ahead_total, ordered_from_stepwise}
use Rattle.rh_layout.proofs.HeldLemmas.{IsHeld}
use Rattle.rh_layout.proofs.SetLemmas.{same_keys, put_cases, put_it, put_kept}
use Rattle.rh_layout.proofs.CountLemmas.{two_from_len}
use Rattle.rh_layout.proofs.KeySetLemmas.{holds_from_contains, contains_from_holds}
use Rattle.rh_layout.proofs.LayoutLemmas.{at, low_of, low_in, home_in-cell_of, ahead_from_beaten, beaten_from_ahead, layout_ordered, layout_from_ordered, with_same_keys}
use Rattle.rh_probe.specs.Look.{IsProbeLength}
use Rattle.rh_probe.proofs.LookLemmas.{spot_is, fresh_from_probe}
use Rattle.rh_edit.specs.Put.{IsPushed}
use Rattle.rh_edit.proofs.InsertLemmas.{GoesAt, stepwise-put}
use Rattle.rh_edit.proofs.HeldAfter.{held_after, put_held, still_held}

-- The key stands where the search for it ends: the set has it.
pub held_at_probe : (b : ℕ) (cells : List ℕ) (k i : ℕ) (S : Keys) → Layout cells b S → IsProbeLength b cells k i → at cells (cell_ahead (2 ^ b) (home_of b k) i) ≡ cell_of k → IsTrue (contains S k)
held_at_probe b cells k i S layout probe is =
    layout.no_other (cell_ahead (2 ^ b) (home_of b k) i) k (omega (arith, layout.size, ahead_below (2 ^ b) (home_of b k) i (omega (arith, probe.in_table))), is)

-- A set that has the key is not changed by it.
pub put_again : (S : Keys) (k : ℕ) → IsTrue (contains S k) → S ≡ set.insert S k
put_again S k has = same_keys S (set.insert S k) (λ q h. put_kept S k q h) (λ q h. elim (put_cases S k q h) [ inl e ↦ rw e has | inr h ↦ h ])

module _ (b : ℕ) (old new : List ℕ) (k i j : ℕ) (S : Keys) (key : IsKey k) (layout : Layout old b S) (probe : IsProbeLength b old k i) (other : at old (cell_ahead (2 ^ b) (home_of b k) i) ≡ cell_of k → ⊥) (pushed : IsPushed (2 ^ b) (home_of b k) i j (cell_of k) (at old) (at new)) (two : HasTwoFree old) where
  abbrev n : ℕ
  n = 2 ^ b

  abbrev h : ℕ
  h = home_of b k

  abbrev spot : ℕ
  spot = cell_ahead (2 ^ b) (home_of b k) i

  low : (value : ℕ) → home_in b value < 2 ^ b
  low = low_in b layout.bits

  h_in : home_of b k < 2 ^ b
  h_in = low_of b layout.bits k

  -- A free cell lies no nearer to the home of k than the first free one.
  free_from : (c : ℕ) → c < n → at old c ≡ 0 → j ≤ steps_round n h c
  free_from c c_in free =
      elim (cases_lt (steps_round n h c) j) [
        | inr from ↦ from
        | inl before ↦
            elim (cases_lt (steps_round n h c) i) [
              | inl passed ↦ let beaten = probe.passed c c_in passed in absurd (omega (arith, beaten.1.1))
              | inr within ↦ let full = pushed.full c c_in within before in absurd (omega arith)
            ]
      ]

  second : j + 1 < n
  second =
      let c_in : two.0 < n = omega (arith, two.2, two.3, layout.size) in
      let d_in : two.1 < n = omega (arith, two.3, layout.size) in
      let apart : steps_round n h two.0 ≡ steps_round n h two.1 → ⊥ = λ e.
      let same : two.0 ≡ two.1 = sym (cell_ahead-steps n h two.0 h_in c_in) ∙ ap (cell_ahead n h) e ∙ cell_ahead-steps n h two.1 h_in d_in in
      omega (arith, two.2) in
      omega (arith, free_from two.0 c_in two.4, free_from two.1 d_in two.5, steps_below n h two.0 (omega arith), steps_below n h two.1 (omega arith))

  goes : GoesAt (2 ^ b) (home_in b) (home_of b k) i j (cell_of k) (at old)
  goes = record {
    at_home = home_in-cell_of b k;
    is_key = omega arith;
    in_order = pushed.in_order;
    second_free = second;
    free = pushed.free;
    full = λ c c_in below. elim (cases_lt (steps_round n h c) i) [
      | inl passed ↦ (ahead_from_beaten b old c k (probe.passed c c_in passed)).0
      | inr within ↦ pushed.full c c_in within below
    ];
    passed = λ c c_in below. (ahead_from_beaten b old c k (probe.passed c c_in below)).1;
    stops = λ c c_in e less.
        let is : spot ≡ c = ap (cell_ahead n h) (sym e) ∙ cell_ahead-steps n h c h_in c_in in
        let some : 0 < at old c = pushed.full c c_in (omega arith) (omega arith) in
        elim (ahead_total n (home_in b) c (at old c) (cell_of k) (rw is at other)) [
          | inl ahead ↦ absurd ((rw is at probe.decides) (beaten_from_ahead b old c k (omega (arith, layout.size)) (some, ahead)))
          | inr behind ↦ behind
        ];
  }

  was_held : (q : ℕ) → IsHeld (2 ^ b) (at old) (cell_of q) → IsTrue (contains S q)
  was_held q held = layout.no_other held.0 q (omega (arith, held.1, layout.size), held.2)

  stood : (value : ℕ) → IsHeld (2 ^ b) (at new) value → IsHeld (2 ^ b) (at old) value ⊎ (value ≡ cell_of k)
  stood = held_after n (home_in b) low h i j (cell_of k) (at old) (at new) h_in goes pushed.put

  module _ (same_size : length new ≡ length old) where
    size : length new ≡ 2 ^ b
    size = same_size ∙ layout.size

    held_in : (c q : ℕ) → Holds new c q → IsHeld (2 ^ b) (at new) (cell_of q)
    held_in c q holds = (c, omega (arith, holds.0, size), holds.1)

    -- each key in the new cells is one of S, or k
    was_or_is : (c q : ℕ) → Holds new c q → IsTrue (contains S q) ⊎ (q ≡ k)
    was_or_is c q holds =
        elim (stood (cell_of q) (held_in c q holds)) [
          | inl was ↦ inl (was_held q was)
          | inr it ↦ inr (omega arith)
        ]

    made : IsLayout b new
    made =
        layout_from_ordered b new layout.bits size
        (λ c q holds. elim (was_or_is c q holds) [ inl was ↦ layout.keys q was | inr it ↦ rw it key ])
        (ordered_from_stepwise n (home_in b) (at new) low (stepwise-put n (home_in b) low h i j (cell_of k) (at old) (at new) h_in goes pushed.put (layout_ordered old b S layout)))

    keys_after : keys_of new ≡ set.insert S k
    keys_after =
        same_keys (keys_of new) (set.insert S k)
        (λ q has.
        let there = holds_from_contains new q has in
        elim (was_or_is there.0 q there.1) [ inl was ↦ put_kept S k q was | inr it ↦ rw it (put_it S k) ])
        (λ q has.
        elim (put_cases S k q has) [
          | inl it ↦
              let there = put_held n (home_in b) low h i j (cell_of k) (at old) (at new) h_in goes pushed.put in
              rw it (contains_from_holds new there.0 k (omega (arith, there.1, size), there.2))
          | inr was ↦
              let stands = layout.held q was in
              let there = still_held n (home_in b) low h i j (cell_of k) (at old) (at new) h_in goes pushed.put (cell_of q) (omega arith) (stands.0, omega (arith, stands.1.0, layout.size), stands.1.1) in
              contains_from_holds new there.0 q (omega (arith, there.1, size), there.2)
        ])

    pub insert_new : (contains S k ≡ false) × Layout new b (set.insert S k)
    insert_new = (fresh_from_probe b old k i S layout probe other, with_same_keys new b (set.insert S k) made keys_after)

-- A free cell lies where k is to stand or after it.
pub free_past_probe : (b : ℕ) (cells : List ℕ) (k i : ℕ) → length cells ≡ 2 ^ b → IsProbeLength b cells k i → (free : HasFree cells) → i ≤ steps_round (2 ^ b) (home_of b k) free.0
free_past_probe b cells k i size probe free =
    elim (cases_lt (steps_round (2 ^ b) (home_of b k) free.0) i) [
      | inr from ↦ from
      | inl before ↦ let beaten = probe.passed free.0 (omega (arith, free.1)) before in absurd (omega (arith, beaten.1.1, free.2))
    ]

-- ---- the same in the words of the code, where `first` is the home and n the number of cells

pub found_code : (b k first i cell value : ℕ) (cells : List ℕ) → IsLayout b cells → first ≡ home_of b k → IsProbeLength b cells k i → value ≡ cell_of k → cell ≡ cell_ahead (length cells) first i → at cells cell ≡ value → IsTrue (contains (keys_of cells) k)
found_code b k first i cell value cells layout start probe is_value is_cell same =
    held_at_probe b cells k i (keys_of cells) layout probe (ap (at cells) (sym (spot_is b (length cells) k first i cell layout.size start is_cell)) ∙ same ∙ is_value)

pub insert_code : (b k first i cell value : ℕ) (old new : List ℕ) → IsKey k → IsLayout b old → set.len (keys_of old) + 1 < 2 ^ b → first ≡ home_of b k → IsProbeLength b old k i → value ≡ cell_of k → cell ≡ cell_ahead (length old) first i → (at old cell ≡ value → ⊥) → (j : ℕ) → IsPushed (length old) first i j value (at old) (at new) → length new ≡ length old → (contains (keys_of old) k ≡ false) × Layout new b (set.insert (keys_of old) k)
insert_code b k first i cell value old new key layout room start probe is_value is_cell other j pushed same_size =
    let spot = spot_is b (length old) k first i cell layout.size start is_cell in
    let pushed_home : IsPushed (2 ^ b) (home_of b k) i j (cell_of k) (at old) (at new) = rw (layout.size, start, is_value) at pushed in
    insert_new b old new k i j (keys_of old) key layout probe (λ e. other (ap (at old) spot ∙ e ∙ sym is_value)) pushed_home (two_from_len old b (keys_of old) layout room) same_size
