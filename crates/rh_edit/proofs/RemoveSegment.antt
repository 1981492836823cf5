-- A segment of a layout, written over with a key taken out.
use Rattle.std.proofs.Common.{◌≡◌, ℕ, ◌+◌, ◌^◌, ◌<◌, inl, inr, sym, ap, ◌∙◌, arith, List, length}
use Rattle.std.specs.Prelude.{IsTrue}
use Rattle.std.specs.FinSet as set
use Rattle.std.specs.FinSet.{contains}
use Rattle.std.proofs.lemmas.Bool.{cases_eq}
use Rattle.rh_layout.specs.Round.{cell_ahead}
use Rattle.rh_layout.specs.Key.{IsBits}
use Rattle.rh_layout.specs.Order.{home_of, home_in, dist_of}
use Rattle.rh_layout.specs.Layout.{Keys, Layout}
use Rattle.rh_layout.proofs.RoundLemmas.{next_cases, next_below, cell_ahead-steps}
use Rattle.rh_layout.proofs.LayoutLemmas.{at, low_of}
use Rattle.rh_probe.specs.Look.{Finds}
use Rattle.rh_probe.specs.Segment.{IsFront, IsAway, IsFirstStop, ReplacesFront}
use Rattle.rh_probe.specs.declared.answer.Look.TheVariants.{Here}
use Rattle.rh_probe.proofs.LookLemmas.{shown}
use Rattle.rh_edit.specs.News.{shifted_back}
use Rattle.rh_edit.specs.Pull.{IsTakenOut, IsPulled}
use Rattle.rh_edit.proofs.NewsLemmas.{shifted_back_len, shifted_back_below, shifted_back_moved, shifted_back_cleared, shifted_back_last}
use Rattle.rh_edit.proofs.PullLemmas.{movable_is, unmovable_is}
use Rattle.rh_edit.proofs.RemoveLayout.{remove_held}

module _ (b : ℕ) (old new seen : List ℕ) (k i j : ℕ) (fits : IsBits b) (size : length old ≡ 2 ^ b) (front : IsFront (2 ^ b) (home_of b k) old seen) (last : j + 1 ≡ length seen) (first : IsFirstStop b (home_of b k) seen i j) (replaces : ReplacesFront (2 ^ b) (home_of b k) old new (shifted_back seen i)) where
  abbrev n : ℕ
  n = 2 ^ b

  abbrev h : ℕ
  h = home_of b k

  out_len : length (shifted_back seen i) ≡ length seen
  out_len = shifted_back_len seen i (omega (arith, first.from, first.within))

  was_shown : (c : ℕ) → c < n → dist_of b c k < length seen → at seen (dist_of b c k) ≡ at old c
  was_shown = shown b old seen k i fits size front

  out_shown : (c : ℕ) → c < n → dist_of b c k < length seen → at (shifted_back seen i) (dist_of b c k) ≡ at new c
  out_shown c c_in inside = shown b new (shifted_back seen i) k i fits (replaces.size ∙ size) replaces.written c c_in (omega (arith, out_len))

  at_offset : (c : ℕ) → c < n → cell_ahead n h (dist_of b c k) ≡ c
  at_offset c c_in = cell_ahead-steps n h c (low_of b fits k) c_in

  out : IsTakenOut (2 ^ b) (home_of b k) i j (at old) (at new)
  out = record {
    before = λ c c_in less.
        sym (out_shown c c_in (omega (arith, first.from, last)))
        ∙ sym (shifted_back_below seen i (omega (arith, first.from, first.within)) (dist_of b c k) less)
        ∙ was_shown c c_in (omega (arith, first.from, last));
    moved = λ c d next from below.
        let c_in : c < n = (next_below n c d next).0 in
        let d_in : d < n = (next_below n c d next).1 in
        elim (next_cases n h c d (low_of b fits k) next) [
          | inl turn ↦ absurd (omega (arith, turn.1, first.within, front.room))
          | inr on ↦
              sym (out_shown c c_in (omega (arith, last)))
              ∙ sym (shifted_back_moved seen i (omega (arith, first.from, first.within)) (dist_of b c k) from (omega (arith, last)))
              ∙ ap (at seen) (sym on.1)
              ∙ was_shown d d_in (omega (arith, on.1, last))
        ];
    cleared = λ c c_in e.
        sym (out_shown c c_in (omega (arith, last)))
        ∙ sym (shifted_back_cleared seen i (omega (arith, first.from, first.within)) (dist_of b c k) (omega (arith, last)));
    after = λ c c_in past.
        elim (cases_eq (dist_of b c k) j) [
          | inr beyond ↦ replaces.elsewhere c c_in (omega (arith, last, out_len))
          | inl is ↦
              sym (out_shown c c_in (omega (arith, last)))
              ∙ sym (shifted_back_last seen i (omega (arith, first.from, first.within)) (dist_of b c k) (omega (arith, last)))
              ∙ was_shown c c_in (omega (arith, last))
        ];
  }

  away_at : (c : ℕ) → c < n → i < dist_of b c k → dist_of b c k < j → IsAway b c (at old c)
  away_at c c_in above below = rw (at_offset c c_in, was_shown c c_in (omega (arith, last))) at (first.between (dist_of b c k) above below)

  stays_at : (c : ℕ) → c < n → dist_of b c k ≡ j → IsAway b c (at old c) → ⊥
  stays_at c c_in e = rw (← was_shown c c_in (omega (arith, last)), e) (rw (ap (cell_ahead n h) (sym e) ∙ at_offset c c_in) at first.stop)

  pulled : IsPulled (2 ^ b) (home_in b) (home_of b k) i j (at old) (at new)
  pulled = record {
    in_order = first.from;
    in_table = omega (arith, first.within, front.room);
    out = out;
    stop = λ c c_in e some. unmovable_is b c (at old c) (stays_at c c_in e) some;
    away = λ c c_in above below. (movable_is b c (at old c) (away_at c c_in above below)).1;
    full = λ c c_in above below. (movable_is b c (at old c) (away_at c c_in above below)).0;
  }

  pub remove_front : (S : Keys) → Layout old b S → Finds b k seen (Here i) → IsTrue (contains S k) × Layout new b (set.remove S k)
  remove_front S layout here = remove_held b old new k i j S layout (omega (arith, here.0, front.room)) (sym (front.shows i here.0) ∙ here.2) pulled replaces.size
