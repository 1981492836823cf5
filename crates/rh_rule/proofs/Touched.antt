-- A step that sets the word of one part: what stays of the representation.
use Rattle.std.proofs.Common.{zero, suc, ◌≡◌, ◌≢◌, ℕ, ◌<◌, ◌≤◌, arith, List, length, set, refl, sym, ap, ◌∙◌, subst, length-set}
use Rattle.rh_world.specs.World.{Cell, IsOpened, IsUsed, Ref, World}
use Rattle.rh_world.specs.World.Cell.{mark}
use Rattle.rh_world.specs.World.Control.{failed, unused}
use Rattle.rh_world.specs.Later.{Steady}
use Rattle.rh_world.specs.Sides.{Side}
use Rattle.rh_words.specs.declared.shape.Shape.{Shape}
use Rattle.rh_words.specs.declared.shape.Part.{Part}
use Rattle.rh_words.specs.declared.shape.Part.TheVariants as part
use Rattle.rh_words.specs.Parts.{IsPart, cell_count, index_of, word_count}
use Rattle.rh_words.specs.View.{Raw, RawRow, View}
use Rattle.rh_words.specs.Words.{control_word_of}
use Rattle.rh_rule.specs.Represents.{Cells, Controls, IsCell, IsOwn, IsRaw, IsRawRow, Kept, RowWords, MarkStands, cell_number, word_at, Represents}
use Rattle.rh_rule.proofs.Frames.{word_same}
use Rattle.rh_rule.proofs.Kept.{DescsStay, MarksStay, Meets, Over, Quiet, kept_stays, quiet, raw_row_stays, raw_stays, rows_stay}

-- parts of the rows are parts of the table
pub own_part : (z : Shape) (u : ℕ) (q : Part) → u < z.workers → IsOwn z u q → IsPart z q
own_part z u (part.Cell c) lt o = absurd o
own_part z u (part.Control worker) lt o = absurd o
own_part z u (part.EntryCell worker n) lt o = (subst (λ (x : ℕ). x < z.workers) (sym o.0) lt, o.1)
own_part z u (part.EntryOld worker n) lt o = (subst (λ (x : ℕ). x < z.workers) (sym o.0) lt, o.1)
own_part z u (part.EntryNew worker n) lt o = (subst (λ (x : ℕ). x < z.workers) (sym o.0) lt, o.1)
own_part z u (part.Reason worker owner) lt o = (subst (λ (x : ℕ). x < z.workers) (sym o.0) lt, o.1)
own_part z u part.Counter lt o = absurd o
own_part z u _ lt o = subst (λ (x : ℕ). x < z.workers) (sym o) lt

-- a word of a descriptor row, of a mark row
abbrev pub IsOfDesc : Part → Type 0
IsOfDesc (part.Serial worker) = Unit {0}
IsOfDesc (part.Length worker) = Unit {0}
IsOfDesc (part.EntryCell worker n) = Unit {0}
IsOfDesc (part.EntryOld worker n) = Unit {0}
IsOfDesc (part.EntryNew worker n) = Unit {0}
IsOfDesc _ = ⊥

abbrev pub IsOfMark : Part → Type 0
IsOfMark (part.MarkSerial worker) = Unit {0}
IsOfMark (part.MarkDesc worker) = Unit {0}
IsOfMark (part.MarkEntry worker) = Unit {0}
IsOfMark _ = ⊥

-- marks that are used up stay so
pub marks_stay : (room : ℕ) (w v : World) → Steady w v → (u : ℕ) → room ≤ w.marks_used u → room ≤ v.marks_used u
marks_stay zero w v l u h = omega arith
marks_stay (suc last) w v l u h = (let used : last < v.marks_used u = l.marks record { worker = u; number = last } (omega arith) in omega arith)

module _ (z : Shape) (words : List ℕ) (keep : ℕ → View) (w : World) (side : ℕ → Side) (m : Represents z words keep w side) (p : Part) (here : IsPart z p) (n : ℕ) (v : World) (l : Steady w v) where
  abbrev pub then : List ℕ
  then = set words (index_of z p) n

  pub set_sized : length then ≡ word_count z
  set_sized = length-set words (index_of z p) n ∙ m.sized

  pub own_same : (u : ℕ) → u < z.workers → (IsOwn z u p → ⊥) → (q : Part) → IsOwn z u q
      → word_at z then q ≡ word_at z words q
  own_same u lt clear q o = word_same z words p n here q (own_part z u q lt o) (λ e. clear (subst (λ (x : Part). IsOwn z u x) e o))

  desc_word_same : (IsOfDesc p → ⊥) → (q : Part) → IsPart z q → IsOfDesc q → word_at z then q ≡ word_at z words q
  desc_word_same clear q part of = word_same z words p n here q part (λ e. clear (subst (λ (x : Part). IsOfDesc x) e of))

  pub serial_same : (IsOfDesc p → ⊥) → (u : ℕ) → u < z.workers → word_at z then (part.Serial u) ≡ word_at z words (part.Serial u)
  serial_same clear u lt = desc_word_same clear (part.Serial u) lt tt

  pub descs_same : (IsOfDesc p → ⊥) → DescsStay z words then w
  descs_same clear d is o has = record {
    had = sym (serial_same clear d.worker is.0) ∙ has;
    length = desc_word_same clear (part.Length d.worker) is.0 tt;
    cells = λ e lt. desc_word_same clear (part.EntryCell d.worker e) (is.0, lt) tt;
    olds = λ e lt. desc_word_same clear (part.EntryOld d.worker e) (is.0, lt) tt;
    news = λ e lt. desc_word_same clear (part.EntryNew d.worker e) (is.0, lt) tt;
  }

  pub raw_row_same : (IsOfDesc p → ⊥) → (r : RawRow) → IsRawRow z words w r → IsRawRow z then v r
  raw_row_same clear = raw_row_stays z words then w v l (descs_same clear) m.controls.descs

  pub mark_word_same : (IsOfMark p → ⊥) → (q : Part) → IsPart z q → IsOfMark q → word_at z then q ≡ word_at z words q
  mark_word_same clear q part of = word_same z words p n here q part (λ e. clear (subst (λ (x : Part). IsOfMark x) e of))

  pub marks_same : (IsOfMark p → ⊥) → MarksStay z words then w
  marks_same clear x is u stands = record {
    stood = sym (mark_word_same clear (part.MarkSerial x.worker) is.0 tt) ∙ stands;
    desc = mark_word_same clear (part.MarkDesc x.worker) is.0 tt;
    entry = mark_word_same clear (part.MarkEntry x.worker) is.0 tt;
  }

  -- no mark comes to stand in a cell
  pub placed_same : (IsOfMark p → ⊥) → ((j : ℕ) (x : Ref) → v.cell j ≡ mark x → w.cell j ≡ mark x)
      → (j : ℕ) (x : Ref) → j < cell_count z → v.cell j ≡ mark x → MarkStands z then x
  placed_same clear back j x lt e =
      let before = back j x e in
      let is = subst (λ (k : Cell). IsCell z k) before (m.cells.standing j lt) in
      mark_word_same clear (part.MarkSerial x.worker) is.0 tt ∙ m.rows.placed j x lt before

  pub raw_same : (IsOfMark p → ⊥) → (r : Raw) → IsRaw z words w r → IsRaw z then v r
  raw_same clear = raw_stays z words then w v l (marks_same clear) m.rows

  pub counter_same : part.Counter ≢ p → v.counter ≡ w.counter → word_at z then part.Counter ≡ v.counter
  counter_same ne same = word_same z words p n here part.Counter tt ne ∙ m.counter ∙ sym same

  pub cells_same : ((c : ℕ) → part.Cell c ≢ p) → ((c : ℕ) → v.cell c ≡ w.cell c) → Cells z then v
  cells_same ne same = record {
    cells = λ c h. word_same z words p n here (part.Cell c) h (ne c) ∙ m.cells.cells c h ∙ ap cell_number (sym (same c));
    standing = λ c h. subst (λ (k : Cell). IsCell z k) (sym (same c)) (m.cells.standing c h);
  }

  pub controls_same : ((worker : ℕ) → part.Control worker ≢ p) → ((worker owner : ℕ) → part.Reason worker owner ≢ p)
      → ((d : Ref) → v.control d ≡ w.control d) → ((u : ℕ) → v.next_number u ≡ w.next_number u) → Controls z then v
  controls_same ne not_note same numbers = record {
    unopened = λ u lt e. word_same z words p n here (part.Control u) lt (ne u) ∙ m.controls.unopened u lt (sym (numbers u) ∙ e);
    newest = λ d lt e. let q = m.controls.newest d lt (e ∙ numbers d.worker) in
        ((λ o. q.0 (sym (same d) ∙ o)), word_same z words p n here (part.Control d.worker) lt (ne d.worker) ∙ q.1 ∙ ap (control_word_of d.number) (sym (same d)));
    descs = λ d o. m.controls.descs d (λ e. o (same d ∙ e));
    withdrawals = λ d q. marks_stay z.rooms.marks w v l d.worker (m.controls.withdrawals d (sym (same d) ∙ q));
    deciders = λ d e by q. m.controls.deciders d e by (sym (same d) ∙ q);
    reasons = λ d e by q is.
        let f : w.control d ≡ failed e by = sym (same d) ∙ q in
        let owner = (m.controls.descs d (λ u. let bad : failed e by ≡ unused = sym f ∙ u in cc)).0 in
        word_same z words p n here (part.Reason by d.worker) (m.controls.deciders d e by f, owner) (not_note by d.worker) ∙ m.controls.reasons d e by f (is ∙ numbers d.worker);
  }

  pub rows_same : ((d : Ref) → IsOpened (v.control d) → IsOpened (w.control d)) → ((x : Ref) → IsUsed v x → IsUsed w x)
      → DescsStay z words then w → MarksStay z words then w → ((j : ℕ) (x : Ref) → j < cell_count z → v.cell j ≡ mark x → MarkStands z then x) → RowWords z then v
  rows_same back fewer descs marks placed = rows_stay z words then w v l m.controls.descs back fewer descs marks placed m.rows

  -- what is kept of the other workers
  pub others_stay : (who : ℕ) → ((u : ℕ) → u ≢ who → v.next_number u ≡ w.next_number u)
      → ((u : ℕ) → u ≢ who → v.marks_used u ≡ w.marks_used u)
      → ((d : Ref) → d.worker ≢ who → IsOpened (v.control d) → IsOpened (w.control d))
      → ((u : ℕ) → u ≢ who → IsOwn z u p → ⊥) → DescsStay z words then w → MarksStay z words then w
      → ((u : ℕ) → u ≢ who → (d : Ref) (e : ℕ) → v.control d ≡ failed e u → w.control d ≡ failed e u)
      → (u : ℕ) → u < z.workers → u ≢ who → Kept z then v (side u) u (keep u)
  others_stay who numbers marks back clear descs stay fails u lt ne =
      let h = m.kept u lt in
      let same = own_same u lt (clear u ne) in
      kept_stays z words then w v l (side u) (side u) u (keep u) (keep u).side (keep u).control (keep u).raw_rows (keep u).raw (numbers u ne) (marks u ne)
      (λ i o. back record { worker = u; number = i } ne o) same
      (λ r i. raw_row_stays z words then w v l descs m.controls.descs r (h.raw_rows r i)) (λ r i. raw_stays z words then w v l stay m.rows r (h.raw r i)) h.side_is
      record {
        over = h.over;
        no_control = h.no_control;
        control = h.control;
        open_row = λ i c. same (part.Serial u) refl ∙ h.open_row i c;
        failures = λ d e f. h.failures d e (fails u ne d e f);
      } h

  -- of a worker that notes no control
  pub quiet_same : (u : ℕ) → u < z.workers → (IsOfDesc p → ⊥) → (x : Side) → Quiet (keep u).side x → Over u (keep u).opened x
      → ((d : Ref) (e : ℕ) → v.control d ≡ failed e u → w.control d ≡ failed e u) → Meets z then v u (keep u) x (keep u).control
  quiet_same u lt clear x q over fails = quiet z words then w v l (side u) u (keep u) x (m.kept u lt) q over (serial_same clear u lt) fails
