-- Acts from what a scan has seen: the part of a front up to where it ends, and its entries in the order of their cells.
use Rattle.std.proofs.Common.{◌≡◌, ℕ, ◌+◌, ◌-◌, ◌^◌, ◌<◌, ◌≤◌, ◌⊎◌, inl, inr, sym, ap, ◌∙◌, subst, arith, List, ◌++◌, length, get_or, take, get_or-take, length-take-le}
use Rattle.std.specs.Prelude.{nat_lt}
use Rattle.std.proofs.lemmas.Bool.{cases_lt}
use Rattle.std.proofs.lemmas.Bool.Decides.{nat_tests}
use Rattle.std.proofs.lemmas.List.{take_at}
use Rattle.rh_layout.specs.Round.{cell_ahead}
use Rattle.rh_layout.specs.Key.{IsBits, IsKey, cell_of}
use Rattle.rh_layout.specs.Order.{home_of}
use Rattle.rh_layout.proofs.LayoutLemmas.{low_of}
use Rattle.rh_layout.proofs.RoundLemmas.{ahead_cases}
use Rattle.rh_probe.specs.Look.{Finds}
use Rattle.rh_probe.specs.Segment.{IsFirstFree, IsFirstStop}
use Rattle.rh_probe.specs.declared.answer.Look.TheVariants.{Here, Goes}
use Rattle.rh_edit.specs.News.{inserted_at, shifted_back}
use Rattle.rh_acts.specs.Act.{Act}
use Rattle.rh_acts.specs.KeyActs.{IsFrontAct, PutsIn, TakesOut, ShowsAbsent}
use Rattle.rh_acts.specs.CellOrder.{past_end, offset_at, entry_of, IsInCellOrder}
use Rattle.rh_acts.proofs.FoldLemmas.{then_is, else_is}

-- ---- what a scan found holds of the part that it looked at

module _ (seen : List ℕ) (m : ℕ) (within : m ≤ length seen) where
  part_at : (p : ℕ) → p < m → get_or (take m seen) p 0 ≡ get_or seen p 0
  part_at p l = get_or-take m seen p 0 l

  part_len : length (take m seen) ≡ m
  part_len = length-take-le m seen within

  goes_part : (b k i : ℕ) → i < m → Finds b k seen (Goes i) → Finds b k (take m seen) (Goes i)
  goes_part b k i l goes = (
    omega (arith, part_len),
    λ p less. rw (part_at p (omega arith)) (goes.1 p less),
    λ e. goes.2 (sym (part_at i l) ∙ e),
    λ passed. goes.3 (rw (part_at i l) at passed),
  )

  here_part : (b k i : ℕ) → i < m → Finds b k seen (Here i) → Finds b k (take m seen) (Here i)
  here_part b k i l here = (
    omega (arith, part_len),
    λ p less. rw (part_at p (omega arith)) (here.1 p less),
    part_at i l ∙ here.2,
  )

free_part : (seen : List ℕ) (i j : ℕ) → IsFirstFree seen i j → IsFirstFree (take (j + 1) seen) i j
free_part seen i j first =
    let l : j + 1 ≤ length seen = omega (arith, first.within) in
    record {
      from = first.from;
      within = omega (arith, part_len seen (j + 1) l);
      free = part_at seen (j + 1) l j (omega arith) ∙ first.free;
      full = λ p lo hi. rw (part_at seen (j + 1) l p (omega arith)) (first.full p lo hi);
    }

stop_part : (b h : ℕ) (seen : List ℕ) (i j : ℕ) → IsFirstStop b h seen i j → IsFirstStop b h (take (j + 1) seen) i j
stop_part b h seen i j first =
    let l : j + 1 ≤ length seen = omega (arith, first.within) in
    record {
      from = first.from;
      within = omega (arith, part_len seen (j + 1) l);
      stop = λ away. first.stop (rw (part_at seen (j + 1) l j (omega arith)) at away);
      between = λ p lo hi. rw (part_at seen (j + 1) l p (omega arith)) (first.between p lo hi);
    }

-- ---- the order of the cells

module _ (n h m : ℕ) (h_in : h < n) (room : m ≤ n) where
  low_offset : (t : ℕ) → t < past_end n h m → offset_at n h m t ≡ n - h + t
  low_offset t l = then_is (nat_lt t (past_end n h m)) (n - h + t) (t - past_end n h m) (grind (arith, nat_tests))

  high_offset : (t : ℕ) → past_end n h m ≤ t → offset_at n h m t ≡ t - past_end n h m
  high_offset t l = else_is (nat_lt t (past_end n h m)) (n - h + t) (t - past_end n h m) (grind (arith, nat_tests))

  offset_within : (t : ℕ) → t < m → offset_at n h m t < m
  offset_within t l = elim (cases_lt t (past_end n h m)) [ inl low ↦ omega (arith, low_offset t low) | inr high ↦ omega (arith, high_offset t high) ]

  cell_cases : (t : ℕ) → t < m → ((t < past_end n h m) × (cell_ahead n h (offset_at n h m t) ≡ t)) ⊎ ((past_end n h m ≤ t) × (cell_ahead n h (offset_at n h m t) ≡ h + (t - past_end n h m)))
  cell_cases t l =
      let in' = offset_within t l in
      elim (cases_lt t (past_end n h m)) [
        | inl low ↦ inl (low, elim (ahead_cases n h (offset_at n h m t) h_in (omega arith)) [ inl a ↦ absurd (omega (arith, low_offset t low, a.0)) | inr a ↦ omega (arith, low_offset t low, a.1) ])
        | inr high ↦ inr (high, elim (ahead_cases n h (offset_at n h m t) h_in (omega arith)) [ inl a ↦ omega (arith, high_offset t high, a.1) | inr a ↦ absurd (omega (arith, high_offset t high, a.0)) ])
      ]

  cells_rise : (i j : ℕ) → i < j → j < m → cell_ahead n h (offset_at n h m i) < cell_ahead n h (offset_at n h m j)
  cells_rise i j l j_in =
      elim (cell_cases i (omega arith)) [
        | inl a ↦ elim (cell_cases j j_in) [ inl c ↦ omega (arith, a.1, c.1) | inr c ↦ omega (arith, a.0, a.1, c.0, c.1) ]
        | inr a ↦ elim (cell_cases j j_in) [ inl c ↦ absurd (omega (arith, a.0, c.0)) | inr c ↦ omega (arith, a.0, a.1, c.0, c.1) ]
      ]

  -- each offset has its turn
  turn_of : (p : ℕ) → p < m → (t : ℕ) × (t < m) × (offset_at n h m t ≡ p)
  turn_of p l =
      elim (cases_lt p (n - h)) [
        | inl before ↦ (p + past_end n h m, omega arith, high_offset (p + past_end n h m) (omega arith) ∙ omega arith)
        | inr behind ↦ (p - (n - h), omega arith, low_offset (p - (n - h)) (omega arith) ∙ omega arith)
      ]

-- Entries in the order of their cells are an act on the front.
front_in_cell_order : (n h : ℕ) (act : Act) (olds news : List ℕ) → h < n → length olds ≤ n → IsInCellOrder n h act olds news → IsFrontAct n h act olds news
front_in_cell_order n h act olds news h_in room order =
    let m = length olds in
    record {
      rising = λ i j d l j_in. rw (order.at i d (omega arith), order.at j d j_in) (cells_rise n h m h_in room i j l (omega (arith, order.size)));
      room = room;
      has = λ p p_in.
          let t = turn_of n h m h_in room p p_in in
          let e = entry_of n h olds news p in
          (t.0, omega (arith, t.1, order.size), order.at t.0 e (omega (arith, t.1, order.size)) ∙ ap (entry_of n h olds news) t.2);
      only = λ e in'. (offset_at n h m in'.0, offset_within n h m h_in room in'.0 (omega (arith, in'.1, order.size)), sym in'.2 ∙ order.at in'.0 e in'.1);
    }

-- ---- acts, as the slices show them

-- the written entries are an act on the first m offsets
module _ (b k m first : ℕ) (seen news : List ℕ) (act more : Act) (fits : IsBits b) (room : length seen ≤ 2 ^ b) (within : m ≤ length seen) (home : first ≡ home_of b k) where
  written_front : IsInCellOrder (2 ^ b) first act (take m seen) news → IsFrontAct (2 ^ b) (home_of b k) (take m (act ++ more)) (take m seen) news
  written_front order =
      let size = part_len seen m within in
      let act_is : take m (act ++ more) ≡ act = take_at act more m (omega (arith, order.size, size)) in
      subst (λ (a : Act). IsFrontAct (2 ^ b) (home_of b k) a (take m seen) news) (sym act_is)
      (front_in_cell_order (2 ^ b) (home_of b k) act (take m seen) news (low_of b fits k) (omega (arith, size))
      (subst (λ h. IsInCellOrder (2 ^ b) h act (take m seen) news) home order))

pub insert_written : (b k offset last first : ℕ) (seen : List ℕ) (act more : Act) → IsBits b → IsKey k → length seen ≤ 2 ^ b → Finds b k seen (Goes offset) → IsFirstFree seen offset last → first ≡ home_of b k → IsInCellOrder (2 ^ b) first act (take (last + 1) seen) (inserted_at (cell_of k) (take (last + 1) seen) offset) → (last + 1 ≤ length seen) × PutsIn b k (take (last + 1) seen) (take (last + 1) (act ++ more))
insert_written b k offset last first seen act more fits key room goes free home order =
    let l : last + 1 ≤ length seen = omega (arith, free.within) in
    let size = part_len seen (last + 1) l in (
      l,
      record {
        key = key;
        offset = offset;
        last = last;
        goes = goes_part seen (last + 1) l b k offset (omega (arith, free.from)) goes;
        free = free_part seen offset last free;
        ends = sym size;
        front = written_front b k (last + 1) first seen (inserted_at (cell_of k) (take (last + 1) seen) offset) act more fits room l home order;
      },
    )

pub remove_written : (b k offset last first : ℕ) (seen : List ℕ) (act more : Act) → IsBits b → length seen ≤ 2 ^ b → Finds b k seen (Here offset) → IsFirstStop b first seen offset last → first ≡ home_of b k → IsInCellOrder (2 ^ b) first act (take (last + 1) seen) (shifted_back (take (last + 1) seen) offset) → (last + 1 ≤ length seen) × TakesOut b k (take (last + 1) seen) (take (last + 1) (act ++ more))
remove_written b k offset last first seen act more fits room here stop home order =
    let l : last + 1 ≤ length seen = omega (arith, stop.within) in
    let size = part_len seen (last + 1) l in (
      l,
      record {
        offset = offset;
        last = last;
        here = here_part seen (last + 1) l b k offset (omega (arith, stop.from)) here;
        stop = stop_part b (home_of b k) seen offset last (subst (λ h. IsFirstStop b h seen offset last) home stop);
        ends = sym size;
        front = written_front b k (last + 1) first seen (shifted_back (take (last + 1) seen) offset) act more fits room l home order;
      },
    )

pub absence_written : (b k offset first : ℕ) (seen : List ℕ) (act more : Act) → IsBits b → length seen ≤ 2 ^ b → Finds b k seen (Goes offset) → first ≡ home_of b k → IsInCellOrder (2 ^ b) first act (take (offset + 1) seen) (take (offset + 1) seen) → (offset + 1 ≤ length seen) × ShowsAbsent b k (take (offset + 1) seen) (take (offset + 1) (act ++ more))
absence_written b k offset first seen act more fits room goes home order =
    let l : offset + 1 ≤ length seen = omega (arith, goes.0) in (
      l,
      record {
        offset = offset;
        goes = goes_part seen (offset + 1) l b k offset (omega arith) goes;
        ends = sym (part_len seen (offset + 1) l);
        front = written_front b k (offset + 1) first seen (take (offset + 1) seen) act more fits room l home order;
      },
    )
