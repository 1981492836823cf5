-- What a front of cells tells about a layout.
use Rattle.std.proofs.Common.{◌≡◌, ℕ, ◌^◌, ◌<◌, sym, ap, ◌∙◌, arith, List, length, false}
use Rattle.std.specs.Prelude.{IsTrue}
use Rattle.std.specs.FinSet.{contains}
use Rattle.rh_layout.specs.Round.{steps_round, cell_ahead}
use Rattle.rh_layout.specs.Key.{IsBits, cell_of}
use Rattle.rh_layout.specs.Order.{home_of, home_in, dist_of}
use Rattle.rh_layout.specs.Layout.{Keys, Layout}
use Rattle.rh_layout.proofs.RoundLemmas.{ahead_below, cell_ahead-steps, steps-cell_ahead}
use Rattle.rh_layout.proofs.HeldLemmas.{not_held}
use Rattle.rh_layout.proofs.LayoutLemmas.{at, low_of, low_in, home_in-cell_of, ahead_from_beaten, beaten_from_ahead, layout_ordered}
use Rattle.rh_layout.proofs.SetLemmas.{not_true}
use Rattle.rh_probe.specs.Look.{IsPassedAt, AllPassed, Finds, IsProbeLength}
use Rattle.rh_probe.specs.Segment.{IsFront}
use Rattle.rh_probe.specs.declared.answer.Look.TheVariants.{Here, Goes}

-- A key that does not stand where its search ends stands nowhere.
pub fresh_from_probe : (b : ℕ) (cells : List ℕ) (k i : ℕ) (S : Keys) → Layout cells b S → IsProbeLength b cells k i → (at cells (cell_ahead (2 ^ b) (home_of b k) i) ≡ cell_of k → ⊥) → contains S k ≡ false
fresh_from_probe b cells k i S layout probe other =
    let n = 2 ^ b in
    let h = home_of b k in
    let spot = cell_ahead n h i in
    let low = low_of b layout.bits k in
    let spot_in : spot < n = ahead_below n h i (omega (arith, probe.in_table)) in
    let far : steps_round n h spot ≡ i = steps-cell_ahead n h i low probe.in_table in
    let home_is : home_in b (cell_of k) ≡ h = home_in-cell_of b k in
    not_true (contains S k) (λ has.
    let there = layout.held k has in
    not_held n (home_in b) (at cells) (low_in b layout.bits) (layout_ordered cells b S layout) (cell_of k) spot (omega arith) spot_in
    (λ c c_in before. (ahead_from_beaten b cells c k (probe.passed c c_in (rw (home_is, far) at before))).1)
    other
    (λ ahead. probe.decides (beaten_from_ahead b cells spot k (omega (arith, layout.size)) ahead))
    (there.0, omega (arith, there.1.0, layout.size), there.1.1))

-- that cell in the words of the code, where `first` is the home and n the number of cells
pub spot_is : (b n k first i cell : ℕ) → n ≡ 2 ^ b → first ≡ home_of b k → cell ≡ cell_ahead n first i → cell ≡ cell_ahead (2 ^ b) (home_of b k) i
spot_is b n k first i cell size start is = is ∙ ap (λ m. cell_ahead m first i) size ∙ ap (λ h. cell_ahead (2 ^ b) h i) start

module _ (b : ℕ) (cells seen : List ℕ) (k i : ℕ) (fits : IsBits b) (size : length cells ≡ 2 ^ b) (front : IsFront (2 ^ b) (home_of b k) cells seen) where
  -- what the front shows at the steps to a cell is what the cell holds
  pub shown : (c : ℕ) → c < 2 ^ b → dist_of b c k < length seen → at seen (dist_of b c k) ≡ at cells c
  shown c c_in inside = front.shows (dist_of b c k) inside ∙ ap (at cells) (cell_ahead-steps (2 ^ b) (home_of b k) c (low_of b fits k) c_in)

  pub probe_from_passed : i < length seen → AllPassed b k seen i → (IsPassedAt b k seen i → ⊥) → IsProbeLength b cells k i
  probe_from_passed inside passed decides = record {
    in_table = omega (arith, front.room);
    passed = λ c c_in less.
        let is = cell_ahead-steps (2 ^ b) (home_of b k) c (low_of b fits k) c_in in
        let beaten = passed (dist_of b c k) less in
        (beaten.0, (omega (arith, size), sym (shown c c_in (omega arith)) ∙ beaten.1), rw is at beaten.2);
    decides = λ held. decides (held.0, front.shows i inside ∙ held.1.1, held.2);
  }

-- The key stands where the scan says, so the set has it.
pub here_held : (b : ℕ) (cells seen : List ℕ) (k i : ℕ) (S : Keys) → Layout cells b S → IsFront (2 ^ b) (home_of b k) cells seen → Finds b k seen (Here i) → IsTrue (contains S k)
here_held b cells seen k i S layout front here =
    layout.no_other (cell_ahead (2 ^ b) (home_of b k) i) k (omega (arith, layout.size, ahead_below (2 ^ b) (home_of b k) i (omega (arith, here.0, front.room))), sym (front.shows i here.0) ∙ here.2)

-- The scan ends without the key, so the set does not have it.
pub goes_fresh : (b : ℕ) (cells seen : List ℕ) (k i : ℕ) (S : Keys) → Layout cells b S → IsFront (2 ^ b) (home_of b k) cells seen → Finds b k seen (Goes i) → contains S k ≡ false
goes_fresh b cells seen k i S layout front goes =
    fresh_from_probe b cells k i S layout (probe_from_passed b cells seen k i layout.bits layout.size front goes.0 goes.1 goes.3) (λ e. goes.2 (front.shows i goes.0 ∙ e))
