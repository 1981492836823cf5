-- What one act makes of a layout.
use Rattle.std.proofs.Common.{◌≡◌, ℕ, ◌+◌, ◌^◌, ◌<◌, ◌≤◌, inl, inr, refl, sym, ap, ◌∙◌, arith, List, length, get_or, false}
use Rattle.std.specs.Prelude.{IsTrue}
use Rattle.std.specs.FinSet as set
use Rattle.std.specs.FinSet.{contains}
use Rattle.std.proofs.lemmas.Bool.{cases_lt}
use Rattle.std.proofs.lemmas.Grind.{same_number_lists}
use Rattle.rh_layout.specs.Round.{steps_round, cell_ahead}
use Rattle.rh_layout.specs.Key.{IsBits, cell_of}
use Rattle.rh_layout.specs.Order.{home_of, dist_of}
use Rattle.rh_layout.specs.Layout.{Keys, Layout}
use Rattle.rh_layout.proofs.RoundLemmas.{cell_ahead-steps, steps-cell_ahead}
use Rattle.rh_layout.proofs.LayoutLemmas.{at, low_of}
use Rattle.rh_layout.proofs.CountLemmas.{two_from_len}
use Rattle.rh_probe.specs.Segment.{IsFront, ReplacesFront}
use Rattle.rh_probe.proofs.LookLemmas.{goes_fresh}
use Rattle.rh_edit.specs.News.{inserted_at, shifted_back}
use Rattle.rh_edit.proofs.NewsLemmas.{inserted_at_len, shifted_back_len}
use Rattle.rh_edit.proofs.InsertSegment.{insert_front}
use Rattle.rh_edit.proofs.RemoveSegment.{remove_front}
use Rattle.rh_layout.specs.declared.entry.Entry.{Entry}
use Rattle.rh_acts.specs.Act.{entry, Act, apply_act, Meets}
use Rattle.rh_acts.specs.KeyActs.{IsFrontAct, IsInsertAct, IsRemoveAct, IsAbsenceAct}
use Rattle.rh_acts.proofs.ActLemmas.{apply_len, apply_other, apply_at}

-- ---- the front before the act and after it
module _ (b k : ℕ) (act : Act) (cells olds news : List ℕ) (fits : IsBits b) (size : length cells ≡ 2 ^ b) (same_len : length news ≡ length olds) (f : IsFrontAct (2 ^ b) (home_of b k) act olds news) (meets : Meets act cells) where
  front_before : IsFront (2 ^ b) (home_of b k) cells olds
  front_before = record {
    room = f.room;
    shows = λ p p_in. sym ((meets (entry (cell_ahead (2 ^ b) (home_of b k) p) (get_or olds p 0) (get_or news p 0)) (f.has p p_in)).1);
  }

  front_after : IsFront (2 ^ b) (home_of b k) (apply_act act cells) news
  front_after = record {
    room = omega (arith, f.room);
    shows = λ p p_in.
        let inside : p < length olds = omega arith in
        let e = entry (cell_ahead (2 ^ b) (home_of b k) p) (get_or olds p 0) (get_or news p 0) in
        sym (apply_at act cells e f.rising (f.has p inside) (meets e (f.has p inside)).0);
  }

  off_front : (c : ℕ) → c < 2 ^ b → length olds ≤ dist_of b c k → at (apply_act act cells) c ≡ at cells c
  off_front c c_in past =
      apply_other act cells c (λ e in' is.
      let got = f.only e in' in
      let there : dist_of b c k ≡ got.0 = ap (steps_round (2 ^ b) (home_of b k)) (sym is ∙ ap (λ (x : Entry). x.cell) got.2) ∙ steps-cell_ahead (2 ^ b) (home_of b k) got.0 (low_of b fits k) (omega (arith, got.1, f.room)) in
      omega (arith, got.1))

  front_replaced : ReplacesFront (2 ^ b) (home_of b k) cells (apply_act act cells) news
  front_replaced = record {
    size = apply_len act cells;
    written = front_after;
    elsewhere = λ c c_in past. off_front c c_in (omega arith);
  }

-- An insert act gives the layout with the key, which was not there.
pub fresh_by_insert : (b k : ℕ) (act : Act) (cells : List ℕ) (S : Keys) → IsInsertAct b k act → Layout cells b S → Meets act cells → contains S k ≡ false
fresh_by_insert b k act cells S ins layout meets =
    let p = ins.1 in
    let news = inserted_at (cell_of k) ins.0 p.offset in
    goes_fresh b cells ins.0 k p.offset S layout (front_before b k act cells ins.0 news layout.bits layout.size (inserted_at_len (cell_of k) ins.0 p.offset p.goes.0) p.front meets) p.goes

pub insert_act : (b k : ℕ) (act : Act) (cells : List ℕ) (S : Keys) → IsInsertAct b k act → Layout cells b S → Meets act cells → set.len S + 1 < 2 ^ b → (contains S k ≡ false) × Layout (apply_act act cells) b (set.insert S k)
insert_act b k act cells S ins layout meets room =
    let seen = ins.0 in
    let p = ins.1 in
    let news = inserted_at (cell_of k) seen p.offset in
    let same_len : length news ≡ length seen = inserted_at_len (cell_of k) seen p.offset p.goes.0 in
    insert_front b cells (apply_act act cells) seen k p.offset p.last layout.bits layout.size
    (front_before b k act cells seen news layout.bits layout.size same_len p.front meets)
    p.ends p.free
    (front_replaced b k act cells seen news layout.bits layout.size same_len p.front meets)
    S p.key layout (two_from_len cells b S layout room) p.goes

-- A remove act gives the layout without the key, which was there.
pub remove_act : (b k : ℕ) (act : Act) (cells : List ℕ) (S : Keys) → IsRemoveAct b k act → Layout cells b S → Meets act cells → IsTrue (contains S k) × Layout (apply_act act cells) b (set.remove S k)
remove_act b k act cells S rem layout meets =
    let seen = rem.0 in
    let t = rem.1 in
    let news = shifted_back seen t.offset in
    let same_len : length news ≡ length seen = shifted_back_len seen t.offset (omega (arith, t.stop.from, t.stop.within)) in
    remove_front b cells (apply_act act cells) seen k t.offset t.last layout.bits layout.size
    (front_before b k act cells seen news layout.bits layout.size same_len t.front meets)
    t.ends t.stop
    (front_replaced b k act cells seen news layout.bits layout.size same_len t.front meets)
    S layout t.here

-- An absence act leaves the cells, and the key was not there.
pub absence_act : (b k : ℕ) (act : Act) (cells : List ℕ) (S : Keys) → IsAbsenceAct b k act → Layout cells b S → Meets act cells → (contains S k ≡ false) × (apply_act act cells ≡ cells)
absence_act b k act cells S none layout meets =
    let seen = none.0 in
    let s = none.1 in
    let before = front_before b k act cells seen seen layout.bits layout.size refl s.front meets in
    let after = front_after b k act cells seen seen layout.bits layout.size refl s.front meets in
    let h = home_of b k in (
      goes_fresh b cells seen k s.offset S layout before s.goes,
      same_number_lists (apply_act act cells) cells (apply_len act cells)
          (λ c l.
          let c_in : c < 2 ^ b = omega (arith, apply_len act cells, layout.size) in
          let is = cell_ahead-steps (2 ^ b) h c (low_of b layout.bits k) c_in in
          elim (cases_lt (dist_of b c k) (length seen)) [
            | inl inside ↦ ap (at (apply_act act cells)) (sym is) ∙ sym (after.shows (dist_of b c k) inside) ∙ before.shows (dist_of b c k) inside ∙ ap (at cells) is
            | inr past ↦ off_front b k act cells seen seen layout.bits layout.size refl s.front meets c c_in past
          ]),
    )
