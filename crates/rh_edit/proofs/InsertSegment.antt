-- A segment of a layout, written over with a key put in.
use Rattle.std.proofs.Common.{◌≡◌, ℕ, ◌+◌, ◌-◌, ◌^◌, ◌<◌, inl, inr, sym, ap, ◌∙◌, arith, List, length, take, get_or-take, length-take, false}
use Rattle.std.specs.FinSet as set
use Rattle.std.specs.FinSet.{contains}
use Rattle.std.proofs.lemmas.List.Edits.{get_or-insert_below, get_or-insert_at, get_or-insert_above}
use Rattle.rh_layout.specs.Key.{IsKey, IsBits, cell_of}
use Rattle.rh_layout.specs.Order.{home_of, dist_of}
use Rattle.rh_layout.specs.Layout.{Keys, Layout, HasTwoFree}
use Rattle.rh_layout.proofs.RoundLemmas.{next_cases, next_below}
use Rattle.rh_layout.proofs.LayoutLemmas.{at, low_of}
use Rattle.rh_probe.specs.Look.{Finds}
use Rattle.rh_probe.specs.Segment.{IsFront, IsFirstFree, ReplacesFront}
use Rattle.rh_probe.specs.declared.answer.Look.TheVariants.{Goes}
use Rattle.rh_probe.proofs.LookLemmas.{shown, probe_from_passed}
use Rattle.rh_edit.specs.News.{inserted_at}
use Rattle.rh_edit.specs.Put.{IsPutIn, IsPushed}
use Rattle.rh_edit.proofs.NewsLemmas.{inserted_at_len}
use Rattle.rh_edit.proofs.InsertLayout.{insert_new}

module _ (b : ℕ) (old new seen : List ℕ) (k i j : ℕ) (fits : IsBits b) (size : length old ≡ 2 ^ b) (front : IsFront (2 ^ b) (home_of b k) old seen) (last : j + 1 ≡ length seen) (first : IsFirstFree seen i j) (replaces : ReplacesFront (2 ^ b) (home_of b k) old new (inserted_at (cell_of k) seen i)) where
  abbrev n : ℕ
  n = 2 ^ b

  abbrev h : ℕ
  h = home_of b k

  -- all of the segment but its last cell, which is empty
  abbrev kept : List ℕ
  kept = take (length seen - 1) seen

  kept_len : length kept ≡ j
  kept_len = length-take (length seen - 1) seen ∙ omega (arith, first.within)

  news_len : length (inserted_at (cell_of k) seen i) ≡ length seen
  news_len = inserted_at_len (cell_of k) seen i (omega (arith, first.from, first.within))

  old_shown : (c : ℕ) → c < n → dist_of b c k < length seen → at seen (dist_of b c k) ≡ at old c
  old_shown = shown b old seen k i fits size front

  new_shown : (c : ℕ) → c < n → dist_of b c k < length seen → at (inserted_at (cell_of k) seen i) (dist_of b c k) ≡ at new c
  new_shown c c_in inside = shown b new (inserted_at (cell_of k) seen i) k i fits (replaces.size ∙ size) replaces.written c c_in (omega (arith, news_len))

  kept_shows : (p : ℕ) → p < j → at kept p ≡ at seen p
  kept_shows p less = let within : p < length seen - 1 = omega (arith, last) in get_or-take (length seen - 1) seen p 0 within

  put : IsPutIn (2 ^ b) (home_of b k) i j (cell_of k) (at old) (at new)
  put = record {
    before = λ c c_in less.
        sym (new_shown c c_in (omega (arith, first.from, last)))
        ∙ get_or-insert_below kept i (cell_of k) 0 (dist_of b c k) less (omega (arith, kept_len, first.from))
        ∙ kept_shows (dist_of b c k) (omega (arith, first.from))
        ∙ old_shown c c_in (omega (arith, first.from, last));
    here = λ c c_in e.
        sym (new_shown c c_in (omega (arith, first.from, last)))
        ∙ ap (at (inserted_at (cell_of k) seen i)) e
        ∙ get_or-insert_at kept i (cell_of k) 0 (omega (arith, kept_len, first.from));
    moved = λ p c next above upto.
        let p_in : p < n = (next_below n p c next).0 in
        let c_in : c < n = (next_below n p c next).1 in
        elim (next_cases n h p c (low_of b fits k) next) [
          | inl turn ↦ absurd (omega (arith, turn.2))
          | inr on ↦
              sym (new_shown c c_in (omega (arith, last)))
              ∙ ap (at (inserted_at (cell_of k) seen i)) on.1
              ∙ get_or-insert_above kept i (cell_of k) 0 (dist_of b p k) (omega (arith, on.1)) (omega (arith, kept_len, first.from))
              ∙ kept_shows (dist_of b p k) (omega (arith, on.1))
              ∙ old_shown p p_in (omega (arith, on.1, last))
        ];
    after = λ c c_in past. replaces.elsewhere c c_in (omega (arith, last, news_len));
  }

  pushed : IsPushed (2 ^ b) (home_of b k) i j (cell_of k) (at old) (at new)
  pushed = record {
    in_order = first.from;
    in_table = omega (arith, first.within, front.room);
    put = put;
    free = λ c c_in e. sym (old_shown c c_in (omega (arith, last))) ∙ ap (at seen) e ∙ first.free;
    full = λ c c_in from below. rw (← old_shown c c_in (omega (arith, last))) (first.full (dist_of b c k) from below);
  }

  pub insert_front : (S : Keys) → IsKey k → Layout old b S → HasTwoFree old → Finds b k seen (Goes i) → (contains S k ≡ false) × Layout new b (set.insert S k)
  insert_front S key layout two goes =
      let probe = probe_from_passed b old seen k i fits size front goes.0 goes.1 goes.3 in
      insert_new b old new k i j S key layout probe (λ e. goes.2 (front.shows i goes.0 ∙ e)) pushed two replaces.size
