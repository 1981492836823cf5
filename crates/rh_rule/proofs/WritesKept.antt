-- Writes and Claims.
use Rattle.std.proofs.Common.{◌≡◌, ◌≢◌, ℕ, suc, Some, None, eqb, ◌+◌, ◌%◌, ◌^◌, ◌<◌, ◌≤◌, ◌⊎◌, inl, inr, Bool, cond, List, get_or, set, sym, refl, ap, ◌∙◌, subst, ⊎_elim, arith, eq-eqb, ne_eqb}
use Rattle.rh_world.specs.World.{In, Ref, World, updated}
use Rattle.rh_world.specs.World.Cell.{mark}
use Rattle.rh_world.specs.World.Control.{failed, unused}
use Rattle.rh_world.specs.Facts.Fact.{decided, mismatch}
use Rattle.rh_world.specs.Later.{Steady}
use Rattle.rh_world.specs.Sides.{Side, claim_side}
use Rattle.rh_world.specs.Rule.{Rule}
use Rattle.rh_world.specs.Moves.{claim_world}
use Rattle.rh_world.specs.Moves.Move.{claims}
use Rattle.rh_world.proofs.EndsKept.{claims_share_out}
use Rattle.rh_world.proofs.Laters.{steady_claim, steady_same}
use Rattle.rh_world.proofs.StepLaws.{each_step_keeps}
use Rattle.rh_world.proofs.Updated.{same_nat}
use Rattle.rh_words.specs.declared.shape.Shape.{Shape}
use Rattle.rh_words.specs.declared.shape.Part.{Part}
use Rattle.rh_words.specs.declared.shape.Part.TheVariants as part
use Rattle.rh_words.specs.Parts.{IsPart, cell_count, index_of, row_index}
use Rattle.rh_words.specs.View.{View}
use Rattle.rh_words.specs.Steps.{CanClaim, IsFree, Step, noted, row_of, row_word, word_after}
use Rattle.rh_words.proofs.IndexLemmas.{same_part}
use Rattle.rh_rule.specs.Represents.{Controls, HasItsRow, IsOwn, Kept, MarkStands, word_at, Represents}
use Rattle.rh_rule.specs.Core.{Core}
use Rattle.rh_rule.proofs.Erasing.{in_mismatch}
use Rattle.rh_rule.proofs.Frames.{word_new, word_same}
use Rattle.rh_rule.proofs.Kept.{DescsStay, MarksStay, kept_stays, represents, raw_row_stays, raw_stays}
use Rattle.rh_rule.proofs.ReadsKept.{rule_none}
use Rattle.rh_rule.proofs.Touched.{IsOfDesc, IsOfMark, cells_same, controls_same, counter_same, descs_same, marks_same, others_stay, own_part, own_same, placed_same, quiet_same, raw_row_same, raw_same, rows_same, serial_same, set_sized}

-- a part of a worker's rows stands at its row
pub own_index : (z : Shape) (u : ℕ) (q : Part) → IsOwn z u q → index_of z q ≡ row_index z u (row_of z q)
own_index z u (part.Serial worker) o = ap (λ (x : ℕ). row_index z x (row_of z (part.Serial worker))) o
own_index z u (part.Length worker) o = ap (λ (x : ℕ). row_index z x (row_of z (part.Length worker))) o
own_index z u (part.EntryCell worker n) o = ap (λ (x : ℕ). row_index z x (row_of z (part.EntryCell worker n))) o.0
own_index z u (part.EntryOld worker n) o = ap (λ (x : ℕ). row_index z x (row_of z (part.EntryOld worker n))) o.0
own_index z u (part.EntryNew worker n) o = ap (λ (x : ℕ). row_index z x (row_of z (part.EntryNew worker n))) o.0
own_index z u (part.MarkSerial worker) o = ap (λ (x : ℕ). row_index z x (row_of z (part.MarkSerial worker))) o
own_index z u (part.MarkDesc worker) o = ap (λ (x : ℕ). row_index z x (row_of z (part.MarkDesc worker))) o
own_index z u (part.MarkEntry worker) o = ap (λ (x : ℕ). row_index z x (row_of z (part.MarkEntry worker))) o
own_index z u (part.Reason worker owner) o = ap (λ (x : ℕ). row_index z x (row_of z (part.Reason worker owner))) o.0
own_index z u _ o = absurd o

one_owner : (z : Shape) (u v : ℕ) (q : Part) → IsOwn z u q → IsOwn z v q → u ≡ v
one_owner z u v (part.Cell c) o i = absurd o
one_owner z u v (part.Control worker) o i = absurd o
one_owner z u v (part.EntryCell worker n) o i = sym o.0 ∙ i.0
one_owner z u v (part.EntryOld worker n) o i = sym o.0 ∙ i.0
one_owner z u v (part.EntryNew worker n) o i = sym o.0 ∙ i.0
one_owner z u v (part.Reason worker owner) o i = sym o.0 ∙ i.0
one_owner z u v part.Counter o i = absurd o
one_owner z u v _ o i = sym o ∙ i

free_own : (z : Shape) (v : View) (q : Part) (u : ℕ) → IsFree z v q u → IsOwn z v.worker q
free_own z v (part.Cell c) u f = f
free_own z v (part.Control worker) u f = f
free_own z v (part.EntryCell worker n) u f = (f.0, f.3)
free_own z v (part.EntryOld worker n) u f = (f.0, f.3)
free_own z v (part.EntryNew worker n) u f = (f.0, f.3)
free_own z v (part.Reason worker owner) u f = (f.0, f.1)
free_own z v part.Counter u f = f
free_own z v _ u f = f.0

-- a word of a descriptor row, or another
of_desc_or : (q : Part) → IsOfDesc q ⊎ (IsOfDesc q → ⊥)
of_desc_or (part.Serial worker) = inl tt
of_desc_or (part.Length worker) = inl tt
of_desc_or (part.EntryCell worker n) = inl tt
of_desc_or (part.EntryOld worker n) = inl tt
of_desc_or (part.EntryNew worker n) = inl tt
of_desc_or _ = inr (λ o. o)

-- a word of a mark row, or another
of_mark_or : (q : Part) → IsOfMark q ⊎ (IsOfMark q → ⊥)
of_mark_or (part.MarkSerial worker) = inl tt
of_mark_or (part.MarkDesc worker) = inl tt
of_mark_or (part.MarkEntry worker) = inl tt
of_mark_or _ = inr (λ o. o)

-- it is written while nothing of the worker is open
free_closed : (z : Shape) (v : View) (q : Part) (u : ℕ) → IsFree z v q u → IsOfDesc q → v.side.current ≡ None
free_closed z v (part.Serial worker) u f o = f.1
free_closed z v (part.Length worker) u f o = f.1
free_closed z v (part.EntryCell worker n) u f o = f.1
free_closed z v (part.EntryOld worker n) u f o = f.1
free_closed z v (part.EntryNew worker n) u f o = f.1
free_closed z v _ u f o = absurd o

-- while no mark of the worker is unsettled
free_settled : (z : Shape) (v : View) (q : Part) (u : ℕ) → IsFree z v q u → IsOfMark q → v.side.unsettled ≡ None
free_settled z v (part.MarkSerial worker) u f o = f.1
free_settled z v (part.MarkDesc worker) u f o = f.1
free_settled z v (part.MarkEntry worker) u f o = f.1
free_settled z v _ u f o = absurd o

module _ (z : Shape) (words : List ℕ) (keep : ℕ → View) (w : World) (side : ℕ → Side) (rule : Rule w side) (m : Represents z words keep w side) (who : ℕ) (mine : who < z.workers) where
  abbrev own : View
  own = keep who

  abbrev old : Kept z words w (side who) who own
  old = m.kept who mine

  module _ (p : Part) (u : ℕ) (free : IsFree z own p u) where
    abbrev then : List ℕ
    then = set words (index_of z p) u

    mine_p : IsOwn z who p
    mine_p = subst (λ (x : ℕ). IsOwn z x p) old.worker (free_own z own p u free)

    here : IsPart z p
    here = own_part z who p mine mine_p

    l : Steady w w
    l = steady_same w

    -- after it the descriptor row is of the next descriptor
    number_next : (q : Part) → IsFree z own q u → q ≡ p → IsOfDesc q → word_at z then (part.Serial who) ≡ w.next_number who
    number_next (part.Serial worker) f e o =
        let is : part.Serial who ≡ p = (λ i. part.Serial (sym (f.0 ∙ old.worker) i)) ∙ e in
        ap (λ (x : Part). word_at z then x) is ∙ word_new z words p u here m.sized ∙ f.2 ∙ old.next_number
    number_next (part.Length worker) f e o =
        word_same z words p u here (part.Serial who) mine (λ i. let no : part.Serial who ≡ part.Length worker = i ∙ sym e in cc) ∙ old.written (part.Serial who) refl ∙ f.2 ∙ old.next_number
    number_next (part.EntryCell worker n) f e o =
        word_same z words p u here (part.Serial who) mine (λ i. let no : part.Serial who ≡ part.EntryCell worker n = i ∙ sym e in cc) ∙ old.written (part.Serial who) refl ∙ f.2 ∙ old.next_number
    number_next (part.EntryOld worker n) f e o =
        word_same z words p u here (part.Serial who) mine (λ i. let no : part.Serial who ≡ part.EntryOld worker n = i ∙ sym e in cc) ∙ old.written (part.Serial who) refl ∙ f.2 ∙ old.next_number
    number_next (part.EntryNew worker n) f e o =
        word_same z words p u here (part.Serial who) mine (λ i. let no : part.Serial who ≡ part.EntryNew worker n = i ∙ sym e in cc) ∙ old.written (part.Serial who) refl ∙ f.2 ∙ old.next_number
    number_next _ f e o = absurd o

    -- after it the mark row is of the next mark
    serial_next : (q : Part) → IsFree z own q u → q ≡ p → IsOfMark q → word_at z then (part.MarkSerial who) ≡ w.marks_used who
    serial_next (part.MarkSerial worker) f e o =
        let is : part.MarkSerial who ≡ p = (λ i. part.MarkSerial (sym (f.0 ∙ old.worker) i)) ∙ e in
        ap (λ (x : Part). word_at z then x) is ∙ word_new z words p u here m.sized ∙ f.2 ∙ old.marks_used
    serial_next (part.MarkDesc worker) f e o =
        word_same z words p u here (part.MarkSerial who) mine (λ i. let no : part.MarkSerial who ≡ part.MarkDesc worker = i ∙ sym e in cc) ∙ old.written (part.MarkSerial who) refl ∙ f.2 ∙ old.marks_used
    serial_next (part.MarkEntry worker) f e o =
        word_same z words p u here (part.MarkSerial who) mine (λ i. let no : part.MarkSerial who ≡ part.MarkEntry worker = i ∙ sym e in cc) ∙ old.written (part.MarkSerial who) refl ∙ f.2 ∙ old.marks_used
    serial_next _ f e o = absurd o

    -- the rows of the other workers' marks stay
    others_same : (v : ℕ) → v < z.workers → v ≢ who → (q : Part) → IsOwn z v q → word_at z then q ≡ word_at z words q
    others_same v lt ne = own_same z words keep w side m p here u w l v lt (λ o. ne (one_owner z v who p o mine_p))

    descs_still : DescsStay z words then w
    descs_still = ⊎_elim of_desc (descs_same z words keep w side m p here u w l) (of_desc_or p)
      where
        of_desc : IsOfDesc p → DescsStay z words then w
        of_desc o d is opened has = ⊎_elim
            (λ (e : d.worker ≡ who).
            let next : d.number ≡ w.next_number d.worker = sym has ∙ ap (λ (v : ℕ). word_at z then (part.Serial v)) e ∙ number_next p free refl o ∙ ap w.next_number (sym e) in
            let below : d.number < w.next_number d.worker = rule.rows.below d opened in
            absurd (omega arith))
            (λ (ne : d.worker ≢ who). record {
              had = sym (others_same d.worker is.0 ne (part.Serial d.worker) refl) ∙ has;
              length = others_same d.worker is.0 ne (part.Length d.worker) refl;
              cells = λ e lt. others_same d.worker is.0 ne (part.EntryCell d.worker e) (refl, lt);
              olds = λ e lt. others_same d.worker is.0 ne (part.EntryOld d.worker e) (refl, lt);
              news = λ e lt. others_same d.worker is.0 ne (part.EntryNew d.worker e) (refl, lt);
            }) (same_nat d.worker who)

    -- its open descriptor, if there is one, keeps its row
    open_still : (n : ℕ) → own.side.current ≡ Some n → HasItsRow z then (record { worker = who; number = n })
    open_still n c = ⊎_elim
        (λ o. let no : None ≡ Some n = sym (free_closed z own p u free o) ∙ c in cc)
        (λ clear. serial_same z words keep w side m p here u w l clear who mine ∙ old.open_row n c) (of_desc_or p)

    -- no reason is written over that an owner is to read
    reason_kept : (d : Ref) (e by : ℕ) → w.control d ≡ failed e by → suc d.number ≡ w.next_number d.worker → part.Reason by d.worker ≢ p
    reason_kept d e by f newest q =
        let may : IsFree z own (part.Reason by d.worker) u = subst (λ (x : Part). IsFree z own x u) (sym q) free in
        let mine_by : by ≡ who = may.0 ∙ old.worker in
        let reads_as : In (decided d (failed 0 own.worker)) own.side.facts = subst (λ (v : ℕ). In (decided d (failed 0 v)) own.side.facts) (sym old.worker)
        (old.failures d e (f ∙ ap (λ (v : ℕ). failed e v) mine_by)) in
        let older : d.number < may.2.desc.number = may.2.older d refl reads_as in
        let found = in_mismatch may.2.desc may.2.entry may.2.mismatch.0 (side who) (subst (λ (s : Side). In (mismatch may.2.desc may.2.entry may.2.mismatch.0) s.facts) old.side_is may.2.mismatch.1) in
        let opened = (rule.prefixes.facts who (mismatch may.2.desc may.2.entry found.0) found.1 refl).0 in
        let below : may.2.desc.number < w.next_number d.worker = subst (λ (v : ℕ). may.2.desc.number < w.next_number v) may.2.of_owner (rule.rows.below may.2.desc opened) in
        absurd (omega arith)

    controls_still : Controls z then w
    controls_still =
        let ne : (v : ℕ) → part.Control v ≢ p = λ v e. subst (λ (x : Part). IsOwn z who x) (sym e) mine_p in
        record {
          unopened = λ v lt e. word_same z words p u here (part.Control v) lt (ne v) ∙ m.controls.unopened v lt e;
          newest = λ d lt e. let q = m.controls.newest d lt e in (q.0, word_same z words p u here (part.Control d.worker) lt (ne d.worker) ∙ q.1);
          descs = m.controls.descs;
          withdrawals = m.controls.withdrawals;
          deciders = m.controls.deciders;
          reasons = λ d e by f is.
              let owner = (m.controls.descs d (λ q. let bad : failed e by ≡ unused = sym f ∙ q in cc)).0 in
              word_same z words p u here (part.Reason by d.worker) (m.controls.deciders d e by f, owner) (reason_kept d e by f is) ∙ m.controls.reasons d e by f is;
        }

    marks_still : MarksStay z words then w
    marks_still = ⊎_elim of_mark (marks_same z words keep w side m p here u w l) (of_mark_or p)
      where
        of_mark : IsOfMark p → MarksStay z words then w
        of_mark o x is used stands = ⊎_elim
            (λ (e : x.worker ≡ who).
            let next : x.number ≡ w.marks_used x.worker = sym stands ∙ ap (λ (v : ℕ). word_at z then (part.MarkSerial v)) e ∙ serial_next p free refl o ∙ ap w.marks_used (sym e) in
            absurd (omega arith))
            (λ (ne : x.worker ≢ who). record {
              stood = sym (others_same x.worker is.0 ne (part.MarkSerial x.worker) refl) ∙ stands;
              desc = others_same x.worker is.0 ne (part.MarkDesc x.worker) refl;
              entry = others_same x.worker is.0 ne (part.MarkEntry x.worker) refl;
            }) (same_nat x.worker who)

    placed_still : (j : ℕ) (x : Ref) → j < cell_count z → w.cell j ≡ mark x → MarkStands z then x
    placed_still = ⊎_elim of_mark (λ clear. placed_same z words keep w side m p here u w l clear (λ j x q. q)) (of_mark_or p)
      where
        of_mark : IsOfMark p → (j : ℕ) (x : Ref) → j < cell_count z → w.cell j ≡ mark x → MarkStands z then x
        of_mark o j x lt q =
            let in_cell = rule.rows.marks j x q in
            let ne : x.worker ≢ who = λ e. (
            let no : None ≡ Some x.number = sym (free_settled z own p u free o) ∙ ap (λ (s : Side). s.unsettled) old.side_is ∙ ap (λ (v : ℕ). (side v).unsettled) (sym e) ∙ in_cell.owed in
            cc) in
            others_same x.worker (m.rows.are_marks x in_cell.used).0 ne (part.MarkSerial x.worker) refl ∙ m.rows.placed j x lt q

    row : (q : Part) → IsOwn z who q → word_at z then q ≡ cond (eqb (row_of z q) (row_of z p)) u (row_word own.written (row_of z q))
    row q o = ⊎_elim
        (λ (e : row_of z q ≡ row_of z p).
        let same : q ≡ p = same_part z q p (own_part z who q mine o) here (own_index z who q o ∙ ap (λ (r : ℕ). row_index z who r) e ∙ sym (own_index z who p mine_p)) in
        ap (λ (x : Part). word_at z then x) same ∙ word_new z words p u here m.sized ∙ sym (ap (λ (b : Bool). cond b u (row_word own.written (row_of z q))) (eq-eqb (row_of z q) (row_of z p) e)))
        (λ (ne : row_of z q ≢ row_of z p).
        word_same z words p u here q (own_part z who q mine o) (λ e. ne (ap (λ (x : Part). row_of z x) e)) ∙ old.written q o ∙ sym (ap (λ (b : Bool). cond b u (row_word own.written (row_of z q))) (ne_eqb (row_of z q) (row_of z p) ne)))
        (same_nat (row_of z q) (row_of z p))

    pub keeps_write : Core w z then (updated keep who (noted z own (Step.writes p u) (get_or words (index_of z p) 0)))
    keeps_write = record {
      side = updated side who (side who);
      rule = rule_none z words keep w side rule m who mine;
      represents = represents z words then keep w w side m l who mine (side who) (noted z own (Step.writes p u) (get_or words (index_of z p) 0))
          (set_sized z words keep w side m p here u w l)
          (counter_same z words keep w side m p here u w l (λ e. subst (λ (x : Part). IsOwn z who x) (sym e) mine_p) refl)
          (cells_same z words keep w side m p here u w l (λ c e. subst (λ (x : Part). IsOwn z who x) (sym e) mine_p) (λ c. refl))
          controls_still
          (rows_same z words keep w side m p here u w l (λ d o. o) (λ x o. o) descs_still marks_still placed_still)
          record {
            worker = old.worker;
            still = old.still;
            side_is = old.side_is;
            opening = old.opening;
            next_number = old.next_number;
            desc_room = old.desc_room;
            no_control = old.no_control;
            control = old.control;
            open_row = open_still;
            failures = old.failures;
            marks_used = old.marks_used;
            mark_room = old.mark_room;
            written = row;
            raw_rows = λ r i. raw_row_stays z words then w w l descs_still m.controls.descs r (old.raw_rows r i);
            raw = λ r i. raw_stays z words then w w l marks_still m.rows r (old.raw r i);
            opened = old.opened;
            all = old.all;
            falling = old.falling;
            over = old.over;
          }
          (others_stay z words keep w side m p here u w l who (λ x ne. refl) (λ x ne. refl) (λ d ne o. o) (λ x ne o. ne (one_owner z x who p o mine_p)) descs_still marks_still (λ v ne d e f. f));
    }

  pub keeps_claim : CanClaim z own
      → Core (claim_world w) z (set words (index_of z part.Counter) (word_after own Step.claims (word_at z words part.Counter))) (updated keep who (noted z own Step.claims (word_at z words part.Counter)))
  keeps_claim can =
      let found : ℕ = word_at z words part.Counter in
      let v : World = claim_world w in
      let l = steady_claim w in
      let bound : w.counter ≤ w.keys + w.workers = (claims_share_out w side rule).counter in
      let few : z.workers ≤ 16 = z.workers_fit in
      let short : z.keys < 2 ^ 63 = z.keys_fit in
      let is : found ≡ w.counter = m.counter in
      let keys : w.keys ≡ z.keys = m.keys in
      let workers : w.workers ≡ z.workers = m.workers in
      let after : (found + 1) % 2 ^ 64 ≡ suc w.counter = omega arith in
      let n : ℕ = (found + 1) % 2 ^ 64 in
      let s : Side = claim_side (side who) w.counter in
      record {
        side = updated side who s;
        rule = each_step_keeps w side who claims rule record {
          worker = subst (λ (x : ℕ). who < x) (sym m.workers) mine;
          closed = ap (λ (x : Side). x.current) (sym old.side_is) ∙ can.closed;
          keys = λ i h. subst (λ (x : ℕ). i < x) (sym m.keys) (can.keys i (subst (λ (x : Side). In i x.claims) (sym old.side_is) h));
        };
        represents = represents z words (set words (index_of z part.Counter) n) keep w v side m l who mine s (noted z own Step.claims found)
            (set_sized z words keep w side m part.Counter tt n v l)
            (word_new z words part.Counter n tt m.sized ∙ after)
            (cells_same z words keep w side m part.Counter tt n v l (λ c e. cc) (λ c. refl))
            (controls_same z words keep w side m part.Counter tt n v l (λ a e. cc) (λ a b e. cc) (λ d. refl) (λ x. refl))
            (rows_same z words keep w side m part.Counter tt n v l (λ d o. o) (λ x o. o)
            (descs_same z words keep w side m part.Counter tt n v l (λ o. o)) (marks_same z words keep w side m part.Counter tt n v l (λ o. o)) (placed_same z words keep w side m part.Counter tt n v l (λ o. o) (λ j x q. q)))
            (kept_stays z words (set words (index_of z part.Counter) n) w v l (side who) s who own (claim_side own.side found) own.control own.raw_rows own.raw refl refl (λ i o. o)
            (own_same z words keep w side m part.Counter tt n v l who mine (λ o. o))
            (λ r i. raw_row_same z words keep w side m part.Counter tt n v l (λ o. o) r (old.raw_rows r i)) (λ r i. raw_same z words keep w side m part.Counter tt n v l (λ o. o) r (old.raw r i)) (λ i. claim_side (old.side_is i) (is i))
            (quiet_same z words keep w side m part.Counter tt n v l who mine (λ o. o) (claim_side own.side found) record { current = λ i e. e; facts = λ i j. j; decided = λ d r i. i } old.over (λ d e f. f)) old)
            (others_stay z words keep w side m part.Counter tt n v l who (λ x ne. refl) (λ x ne. refl) (λ d ne o. o) (λ x ne o. o)
            (descs_same z words keep w side m part.Counter tt n v l (λ o. o)) (marks_same z words keep w side m part.Counter tt n v l (λ o. o)) (λ x ne d e f. f));
      }
