-- What a worker may rely on follows from the rule.
use Rattle.std.proofs.Common.{zero, suc, ◌≡◌, ◌≢◌, ℕ, ◌+◌, ◌<◌, ◌≤◌, List, [], ◌∷◌, length, inl, inr, get_or, sym, refl, ap, ◌∙◌, subst, ⊎_elim, arith}
use Rattle.rh_tagword.specs.Word.{tag_of}
use Rattle.rh_world.specs.World.{Cell, In, IsDecided, IsOpened, Ref, World}
use Rattle.rh_world.specs.World.Control.{failed, undecided, unused, withdrawn}
use Rattle.rh_world.proofs.Updated.{ref_path, same_nat}
use Rattle.rh_world.specs.Facts.Fact.{decided, desc_is, failed_at, found, known, new_is, old_is, size_is, target_is, which_is}
use Rattle.rh_world.specs.Sides.{KeptRead, Side}
use Rattle.rh_world.specs.Rule.{Rule}
use Rattle.rh_world.proofs.EndsKept.{claims_share_out}
use Rattle.rh_words.specs.declared.shape.Shape.{Shape}
use Rattle.rh_words.specs.declared.shape.Part.{Part}
use Rattle.rh_words.specs.declared.shape.Part.TheVariants as part
use Rattle.rh_words.specs.declared.reference.Reading.{Reading}
use Rattle.rh_words.specs.declared.reference.Reading.TheVariants as reading
use Rattle.rh_words.specs.Parts.{cell_count}
use Rattle.rh_words.specs.View.{OwnDesc, View}
use Rattle.rh_words.specs.View.MarkWord.{desc_word}
use Rattle.rh_words.specs.Words.{cell_in, desc_in, read_control, ref_of, serial_in, without_entry}
use Rattle.rh_words.specs.Steps.{IsDesc, IsKnown, IsNoted, IsRead, IsStep, Step, index, index_read, row_of, row_word}
use Rattle.rh_rule.specs.Represents.{DescRow, HasItsRow, IsCell, IsOpenedSo, IsOwn, Kept, Represents, numbers_of, word_at}
use Rattle.rh_rule.specs.Sound.{ControlTells, Finds, IsControlWord, OwnRow, Reads, Sound, StepsFind, ViewsAreSound}
use Rattle.rh_rule.proofs.Deciders.{read_as_failed, read_as_undecided, read_as_unused, read_as_withdrawn}
use Rattle.rh_rule.proofs.Erasing.{of_erased}
use Rattle.rh_rule.proofs.OpensKept.{word_is}
use Rattle.rh_rule.proofs.ReadsKept.{control_word, mark_known, newest_word, opened_known, reads_desc_control, true_decided, true_note, work_known}
use Rattle.rh_rule.proofs.Said.{cell_said_is, desc_said_is, serial_said_is}

number_in : (os : List OwnDesc) (n : ℕ) → In n (numbers_of os) → (o : OwnDesc) × In o os × (o.number ≡ n)
number_in [] n h = absurd h
number_in (o ∷ os) n h = ⊎_elim (λ (e : n ≡ o.number). (o, inl refl, sym e)) (λ i. let r = number_in os n i in (r.0, inr r.1, r.2)) h

module _ (z : Shape) (words : List ℕ) (keep : ℕ → View) (w : World) (side : ℕ → Side) (rule : Rule w side) (m : Represents z words keep w side) (who : ℕ) (mine : who < z.workers) where
  abbrev v : View
  v = keep who

  h : Kept z words w (side who) who v
  h = m.kept who mine

  -- an own word is the one that was written
  own_word : (q : Part) → IsOwn z v.worker q → word_at z words q ≡ row_word v.written (row_of z q)
  own_word q own = h.written q (subst (λ (u : ℕ). IsOwn z u q) h.worker own)

  next_same : (d : Ref) → d.worker ≡ v.worker → w.next_number d.worker ≡ v.next_number
  next_same d own = ap w.next_number (own ∙ h.worker) ∙ sym h.next_number

  row : (d : Ref) → d.worker ≡ v.worker → IsKnown v.side.facts d → row_word v.written 1 ≡ d.number → OwnRow v d
  row d own i serial =
      let opened = opened_known z words keep w side rule m who mine d i in
      let of_who : d.worker ≡ who = own ∙ h.worker in
      let same : d ≡ record { worker = who; number = d.number } = ref_path d (record { worker = who; number = d.number }) of_who refl in
      let found = number_in v.opened d.number (h.all d.number (subst (λ (x : Ref). IsOpened (w.control x)) same opened)) in
      let o : OwnDesc = found.0 in
      let has : HasItsRow z words d = own_word (part.Serial d.worker) own ∙ serial in
      let r : DescRow z words w d = m.rows.descs d opened has in
      let is : IsOpenedSo w d o = subst (λ (x : Ref). IsOpenedSo w x o) (ref_path (record { worker = who; number = o.number }) d (sym of_who) found.2) (h.opened o found.1) in
      let fits : w.size d ≤ cell_count z = (m.rows.entries d opened).fits in
      let inside : (e : ℕ) → e < length o.entries → e < cell_count z = λ e lt. (let size : w.size d ≡ length o.entries = is.size in omega (arith, lt, size, fits)) in
      record {
        own = o;
        here = found.1;
        number = found.2;
        size = sym (own_word (part.Length d.worker) own) ∙ r.length ∙ is.size;
        cells = λ e lt. sym (own_word (part.EntryCell d.worker e) (own, inside e lt)) ∙ r.targets e (subst (λ (n : ℕ). e < n) (sym is.size) lt) ∙ is.targets e lt;
        olds = λ e lt. sym (own_word (part.EntryOld d.worker e) (own, inside e lt)) ∙ r.olds e (subst (λ (n : ℕ). e < n) (sym is.size) lt) ∙ is.olds e lt;
        news = λ e lt. sym (own_word (part.EntryNew d.worker e) (own, inside e lt)) ∙ r.news e (subst (λ (n : ℕ). e < n) (sym is.size) lt) ∙ is.news e lt;
      }

  pub sound : Sound z v
  sound = record {
    descs_used = h.desc_room;
    marks_used = h.mark_room;
    numbers = λ d own i. subst (λ (n : ℕ). d.number < n) (next_same d own) (rule.rows.below d (opened_known z words keep w side rule m who mine d i));
    reads = λ k i.
        let j = of_erased (side who).reads k (subst (λ (s : Side). In k s.reads) h.side_is i) in
        let within : j.0.next_number ≤ w.next_number who = (rule.prefixes.reads who j.0 j.1).within in
        let same : k.next_number ≡ j.0.next_number = ap (λ (r : KeptRead). r.next_number) j.2 in
        let next : v.next_number ≡ w.next_number who = h.next_number in
        omega (arith, within, same, next);
    descs = λ d i. m.controls.descs d (opened_known z words keep w side rule m who mine d i);
    sizes = λ d n i.
        let q = true_note z words keep w side rule m who mine (size_is d n) tt refl i in
        let has = m.rows.entries d q.0 in
        let is : w.size d ≡ n = q.1 in
        (subst (λ (n : ℕ). 0 < n) is has.some, subst (λ (n : ℕ). n ≤ cell_count z) is has.fits);
    targets = λ d e c i may.
        let q = true_note z words keep w side rule m who mine (target_is d e c) tt refl i in
        let o = work_known z words keep w side rule m who mine d e may in
        subst (λ (n : ℕ). n < cell_count z) q.1 ((m.rows.entries d o.0).within e o.1);
    olds = λ d e u i may.
        let q = true_note z words keep w side rule m who mine (old_is d e u) tt refl i in
        let o = ⊎_elim (work_known z words keep w side rule m who mine d e) (mark_known z words keep w side rule m who mine d e) may in
        ap (λ (n : ℕ). tag_of n) (sym q.1) ∙ (m.rows.entries d o.0).plain_olds e o.1;
    news = λ d e u i may.
        let q = true_note z words keep w side rule m who mine (new_is d e u) tt refl i in
        let o = work_known z words keep w side rule m who mine d e may in
        ap (λ (n : ℕ). tag_of n) (sym q.1) ∙ (m.rows.entries d o.0).plain_news e o.1;
    marks = λ x c i.
        let q = true_note z words keep w side rule m who mine (found x c) tt refl i in
        let o = rule.rows.used x q.0 in
        (m.rows.are_marks x q.0, subst (λ (n : ℕ). n < cell_count z) q.1 ((m.rows.entries (w.mark_desc x) o.0).within (w.mark_entry x) o.1));
    marked = λ d e i.
        let o = mark_known z words keep w side rule m who mine d e i in
        let fits : w.size d ≤ cell_count z = (m.rows.entries d o.0).fits in
        let less : e < w.size d = o.1 in
        (m.controls.descs d o.0, omega (arith, less, fits));
    named = λ x d i.
        let q = true_note z words keep w side rule m who mine (desc_is x d) tt refl i in
        subst (λ (y : Ref). IsDesc z y) q.1 (m.controls.descs (w.mark_desc x) (rule.rows.used x q.0).0);
    results = λ d k i. (true_decided z words keep w side rule m who mine d k i).0;
    deciders = λ d by i.
        let f = read_as_failed (w.control d) 0 by (true_decided z words keep w side rule m who mine d (failed 0 by) i).1 in
        m.controls.deciders d f.0 by f.1;
    failures = λ d e n i j.
        let fails = true_note z words keep w side rule m who mine (failed_at d e) tt refl i in
        let size = true_note z words keep w side rule m who mine (size_is d n) tt refl j in
        subst (λ (n : ℕ). e < n) size.1 (rule.prefixes.failed d e fails).mismatch.within;
    withdrawals = λ d own i.
        let is : w.control d ≡ withdrawn = read_as_withdrawn (w.control d) (true_decided z words keep w side rule m who mine d withdrawn i).1 in
        let full : z.rooms.marks ≤ w.marks_used d.worker = m.controls.withdrawals d is in
        subst (λ (n : ℕ). z.rooms.marks ≤ n) (ap w.marks_used (own ∙ h.worker) ∙ sym h.marks_used) full;
    rows = row;
    one_size = λ d a b i j. sym (true_note z words keep w side rule m who mine (size_is d a) tt refl i).1 ∙ (true_note z words keep w side rule m who mine (size_is d b) tt refl j).1;
    one_target = λ d e a b i j. sym (true_note z words keep w side rule m who mine (target_is d e a) tt refl i).1 ∙ (true_note z words keep w side rule m who mine (target_is d e b) tt refl j).1;
    one_old = λ d e a b i j. sym (true_note z words keep w side rule m who mine (old_is d e a) tt refl i).1 ∙ (true_note z words keep w side rule m who mine (old_is d e b) tt refl j).1;
    one_new = λ d e a b i j. sym (true_note z words keep w side rule m who mine (new_is d e a) tt refl i).1 ∙ (true_note z words keep w side rule m who mine (new_is d e b) tt refl j).1;
    one_result = λ d a b i j. sym (true_decided z words keep w side rule m who mine d a i).1 ∙ (true_decided z words keep w side rule m who mine d b j).1;
    one_desc = λ x d f i j. sym (true_note z words keep w side rule m who mine (desc_is x d) tt refl i).1 ∙ (true_note z words keep w side rule m who mine (desc_is x f) tt refl j).1;
    one_entry = λ x e f i j. sym (true_note z words keep w side rule m who mine (which_is x e) tt refl i).1 ∙ (true_note z words keep w side rule m who mine (which_is x f) tt refl j).1;
  }

  -- a cell holds what can stand in one
  cell_finds : (c : ℕ) → c < cell_count z → IsCell z (cell_in (get_or words c 0))
  cell_finds c lt = subst (λ (k : Cell). IsCell z k) (sym (ap cell_in (m.cells.cells c lt) ∙ cell_said_is z (w.cell c) (m.cells.standing c lt))) (m.cells.standing c lt)

  -- a control word is one
  control_is : (u : ℕ) → u < z.workers → IsControlWord (word_at z words (part.Control u))
  control_is u lt = either (w.next_number u) refl
    where
      either : (n : ℕ) → w.next_number u ≡ n → IsControlWord (word_at z words (part.Control u))
      either zero none = record { number = 0; control = unused; state = tt; is = m.controls.unopened u lt none }
      either (suc n) some =
          let f : Ref = record { worker = u; number = n } in
          let q = newest_word z words keep w side rule m who mine f lt (sym some) in
          record { number = n; control = w.control f; state = q.1; is = q.0 }

  -- that of the worker of an opened descriptor tells of it
  control_finds : (d : Ref) → IsDesc z d → IsOpened (w.control d) → ControlTells v d (word_at z words (part.Control d.worker))
  control_finds d here o = record {
    word_is = control_is d.worker here.0;
    tells = λ serial.
        let reads_as : read_control (word_at z words (part.Control d.worker)) ≡ without_entry (w.control d) = reads_desc_control z words keep w side rule m who mine d here.0 serial in
        let next : suc d.number ≡ w.next_number d.worker = control_word z words keep w side rule m who mine d here.0 serial o in
        record {
          opened = λ e. o (read_as_unused (w.control d) (sym reads_as ∙ e));
          noted = λ e q.
              let f = read_as_failed (w.control d) e v.worker (sym reads_as ∙ q) in
              subst (λ (u : ℕ). In (decided d (failed 0 u)) v.side.facts) (sym h.worker) (h.failures d f.0 (f.1 ∙ ap (λ (u : ℕ). failed f.0 u) h.worker));
          older = λ q f same i.
              let open_still : w.control d ≡ undecided = read_as_undecided (w.control d) (sym reads_as ∙ q) in
              let of_f = true_decided z words keep w side rule m who mine f (failed 0 v.worker) i in
              let below : f.number < w.next_number f.worker = rule.rows.below f (opened_known z words keep w side rule m who mine f (inl (inr (failed 0 v.worker, i)))) in
              less d f same (below, next) (λ e. subst IsDecided (sym of_f.1 ∙ ap (λ (y : Ref). without_entry (w.control y)) e ∙ ap without_entry open_still) of_f.0);
          newest = λ own. next ∙ next_same d own;
        };
    stays = λ own next.
        let q = newest_word z words keep w side rule m who mine d here.0 (next ∙ sym (next_same d own)) in
        ap serial_in q.0 ∙ serial_said_is d.number (w.control d) q.1;
  }
    where
      less : (d f : Ref) → f.worker ≡ d.worker → (f.number < w.next_number f.worker) × (suc d.number ≡ w.next_number d.worker) → (f ≡ d → ⊥) → f.number < d.number
      less d f same q ne =
          let a : f.number < w.next_number d.worker = subst (λ (u : ℕ). f.number < w.next_number u) same q.0 in
          let b : suc d.number ≡ w.next_number d.worker = q.1 in
          ⊎_elim (λ (e : f.number ≡ d.number). absurd (ne (ref_path f d same e))) (λ (other : f.number ≢ d.number). omega (arith, a, b, other)) (same_nat f.number d.number)

  reads_find : (r : Reading) → IsRead z r → IsNoted v r → Reads z v r (get_or words (index_read z r) 0)
  reads_find (reading.Word p) here may = λ q own e. ap (λ (n : ℕ). get_or words n 0) e ∙ own_word q own
  reads_find (reading.Cell c) here may = cell_finds c here
  reads_find (reading.Control d) here may = (control_is d.worker here.0, λ i. control_finds (ref_of d) here (opened_known z words keep w side rule m who mine (ref_of d) i))
  reads_find (reading.MarkControl x c d) here may =
      let f = true_note z words keep w side rule m who mine (found (ref_of x) c) tt refl may.0 in
      let is = true_note z words keep w side rule m who mine (desc_is (ref_of x) (ref_of d)) tt refl may.1 in
      control_finds (ref_of d) here (subst (λ (y : Ref). IsOpened (w.control y)) is.1 (rule.rows.used (ref_of x) f.0).0)
  reads_find (reading.MarkSerial x) here may = λ u stands i.
      let r = h.raw record { mark = ref_of x; word = desc_word u } i in
      let d : Ref = w.mark_desc (ref_of x) in
      (d, ap desc_in (r.said stands) ∙ desc_said_is z d (m.controls.descs d (rule.rows.used (ref_of x) r.used).0))
  reads_find _ here may = tt

  pub finds : (s : Step) → IsStep z v s → Finds z v s (get_or words (index z v s) 0)
  finds (Step.writes p u) may = tt
  finds (Step.opens size) may = subst (λ (u : ℕ). word_at z words (part.Control u) ≡ v.control) (sym h.worker) (word_is z words keep w side rule m who mine size may)
  finds (Step.reads r) may = reads_find r may.0 may.1
  finds (Step.places d e c old) may = cell_finds c may.cell
  finds (Step.settles x c d e old) may = cell_finds c may.cell
  finds (Step.decides d k) may = control_finds d may.desc (true_note z words keep w side rule m who mine (known d) tt refl may.known)
  finds (Step.releases d e c k value) may = cell_finds c may.cell
  finds Step.claims may =
      let bound : w.counter ≤ w.keys + w.workers = (claims_share_out w side rule).counter in
      let keys : w.keys ≡ z.keys = m.keys in
      let workers : w.workers ≡ z.workers = m.workers in
      let is : word_at z words part.Counter ≡ w.counter = m.counter in
      omega arith

pub views_are_sound : ViewsAreSound
views_are_sound w z words keep v core mine = sound z words keep w core.side core.rule core.represents v mine

pub steps_find : StepsFind
steps_find w z words keep v s core mine may = finds z words keep w core.side core.rule core.represents v mine s may.step
