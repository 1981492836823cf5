-- Opens.
use Rattle.std.proofs.Common.{◌≡◌, ◌≢◌, ℕ, zero, suc, Bool, cond, eq-eqb, ◌+◌, ◌<◌, ◌≤◌, ◌⊎◌, List, [], ◌∷◌, length, get_or, set, sym, refl, ap, ◌∙◌, subst, inl, inr, ⊎_elim, arith, Some, None}
use Rattle.rh_world.specs.World.{Control, In, IsDecided, IsOpened, Ref, World, updated, updated_ref}
use Rattle.rh_world.specs.World.Control.{failed, undecided, unused, withdrawn}
use Rattle.rh_world.specs.Facts.{Fact}
use Rattle.rh_world.specs.Facts.Fact.{decided}
use Rattle.rh_world.specs.Later.{Steady}
use Rattle.rh_world.specs.Sides.{Side, open_side}
use Rattle.rh_world.specs.Rule.{Rule}
use Rattle.rh_world.specs.Moves.{Entries, IsAllowed, next_desc, note_entries, open_world, side_after}
use Rattle.rh_world.specs.Moves.Move.{opens}
use Rattle.rh_world.proofs.Updated.{ref_path, some_injective, updated_at, updated_else, updated_here, updated_ref_at, updated_ref_else, updated_ref_here}
use Rattle.rh_layout.specs.declared.entry.Entry.{Entry}
use Rattle.rh_words.specs.declared.shape.Shape.{Shape}
use Rattle.rh_words.specs.declared.shape.Part.{Part}
use Rattle.rh_words.specs.declared.shape.Part.TheVariants as part
use Rattle.rh_words.specs.Parts.{cell_count, entry_row, index_of}
use Rattle.rh_words.specs.View.{OwnDesc, View, Written}
use Rattle.rh_words.specs.Words.{IsPlain, control_word_of, without_entry}
use Rattle.rh_words.specs.Steps.{AreEntries, CanOpenNext, IsDesc, Step, entries_at, entries_of, entry_of, next_entries, noted, open_noted, own_desc, row_of, row_word, swapped}
use Rattle.rh_rule.specs.Erased.{erased}
use Rattle.rh_rule.specs.Represents.{Controls, DescRow, HasEntries, HasItsRow, IsOpenedSo, IsOwn, Kept, numbers_of, word_at, Represents}
use Rattle.rh_rule.specs.Core.{Core}
use Rattle.rh_rule.proofs.CellsKept.{rule_at, steady_at}
use Rattle.rh_rule.proofs.Deciders.{read_as_number}
use Rattle.rh_rule.proofs.Erasing.{erased_entries}
use Rattle.rh_rule.proofs.Frames.{word_new, word_same}
use Rattle.rh_rule.proofs.ReadsKept.{newest_word, true_decided, unused_or}
use Rattle.rh_rule.proofs.Kept.{desc_row_stays, entries_stay, mark_row_stays, represents}
use Rattle.rh_rule.proofs.Touched.{cells_same, counter_same, descs_same, marks_same, others_stay, own_same, placed_same, raw_row_same, raw_same, set_sized}

-- the entries that the rows say
pub entries_length : (rows : List Written) (index n : ℕ) → length (entries_at rows index n) ≡ n
entries_length rows index zero = refl
entries_length rows index (suc n) = ap suc (entries_length rows (suc index) n)

abbrev entry_said : List Written → (entry : ℕ) → Entry
entry_said rows e = record { cell = row_word rows (entry_row e 0); old = row_word rows (entry_row e 1); new = row_word rows (entry_row e 2) }

entries_said : (rows : List Written) (index n e : ℕ) → e < n
    → entry_of (entries_at rows index n) e ≡ entry_said rows (index + e)
entries_said rows index zero e h = absurd (omega arith)
entries_said rows index (suc n) zero h = ap (entry_said rows) (let q : index ≡ index + 0 = omega arith in q)
entries_said rows index (suc n) (suc e) h = entries_said rows (suc index) n e (omega arith) ∙ ap (entry_said rows) (let q : suc index + e ≡ index + suc e = omega arith in q)

-- the facts grow, and the last descriptor is open
pub entries_current : (s : Side) (d : Ref) (p : Entries) (n : ℕ) → (note_entries s d p n).current ≡ s.current
entries_current s d p zero = refl
entries_current s d p (suc n) = entries_current s d p n

pub entries_notes : (s : Side) (d : Ref) (p : Entries) (n : ℕ) (i : Fact) → In i s.facts → In i (note_entries s d p n).facts
entries_notes s d p zero i h = inr (inr h)
entries_notes s d p (suc n) i h = inr (inr (inr (entries_notes s d p n i h)))

-- rising cells of the table are no more than its cells
pub fits_cells : (z : Shape) (es : List Entry) → AreEntries z es → length es ≤ cell_count z
fits_cells z es are = all (length es) refl
  where
    reaches : (e : ℕ) → e < length es → e ≤ (entry_of es e).cell
    reaches zero lt = omega arith
    reaches (suc e) lt = let before = reaches e (omega (arith, lt)) in let rise = are.rising e (suc e) (omega arith) lt in omega (arith, before, rise)

    all : (n : ℕ) → length es ≡ n → n ≤ cell_count z
    all zero is = omega arith
    all (suc n) is = let lt : n < length es = omega (arith, is) in let r = reaches n lt in let c = are.cells n lt in omega (arith, r, c)

no_decided : (s : Side) (d : Ref) (p : Entries) (n : ℕ) (f : Ref) (r : Control) → In (decided f r) (note_entries s d p n).facts → In (decided f r) s.facts
no_decided s d p zero f r i = ⊎_elim (λ e. cc) (λ j. ⊎_elim (λ e. cc) (λ j. j) j) i
no_decided s d p (suc n) f r i = ⊎_elim (λ e. cc) (λ j. ⊎_elim (λ e. cc) (λ j. ⊎_elim (λ e. cc) (λ j. no_decided s d p n f r j) j) j) i

module _ (z : Shape) (words : List ℕ) (keep : ℕ → View) (w : World) (side : ℕ → Side) (rule : Rule w side) (m : Represents z words keep w side) (who : ℕ) (mine : who < z.workers) (size : ℕ) (can : CanOpenNext z (keep who) size) where
  abbrev k : View
  k = keep who

  abbrev t : Side
  t = side who

  h : Kept z words w t who k
  h = m.kept who mine

  abbrev es : List Entry
  es = next_entries k size

  abbrev es_of : Entries
  es_of = entries_of es

  abbrev d : Ref
  d = next_desc w who

  long : length es ≡ size
  long = entries_length k.written 0 size

  may : IsAllowed w side who (opens es_of)
  may = record { nonempty = can.entries.some; rising = can.entries.rising; closed = ap (λ (s : Side). s.current) (sym h.side_is) ∙ can.closed }

  desc_is : own_desc k ≡ d
  desc_is = ref_path (own_desc k) d h.worker h.next_number

  in_numbers : (o : OwnDesc) (os : List OwnDesc) → In o os → In o.number (numbers_of os)
  in_numbers o [] i = i
  in_numbers o (a ∷ os) i = ⊎_elim (λ e. inl (ap (λ (y : OwnDesc). y.number) e)) (λ j. inr (in_numbers o os j)) i

  of_number : (n : ℕ) (os : List OwnDesc) → In n (numbers_of os) → (o : OwnDesc) × In o os × (o.number ≡ n)
  of_number n [] i = absurd i
  of_number n (a ∷ os) i = ⊎_elim (λ e. (a, inl refl, sym e)) (λ j. let q = of_number n os j in (q.0, inr q.1, q.2)) i

  abbrev p : Part
  p = part.Control who

  abbrev word : ℕ
  word = word_at z words p

  fresh : w.control d ≡ unused
  fresh = unused_or (w.control d) (λ o. let q : w.next_number who < w.next_number who = rule.rows.below d o in omega arith)

  -- nothing is open, so the last control is decided and known
  pub word_is : word ≡ k.control
  word_is = either (w.next_number who) refl
    where
      either : (n : ℕ) → w.next_number who ≡ n → word ≡ k.control
      either zero none = m.controls.unopened who mine none ∙ sym (h.no_control (h.next_number ∙ none))
      either (suc n) some =
          let f : Ref = record { worker = who; number = n } in
          let q = newest_word z words keep w side rule m who mine f mine (sym some) in
          let o = m.controls.newest f mine (sym some) in
          let listed = of_number n k.opened (h.all n o.0) in
          let known : (r : Control) × In (decided f r) k.side.facts = ⊎_elim
          (λ c. let bad : None ≡ Some listed.0.number = sym can.closed ∙ c in cc)
          (λ g. (g.0, subst (λ (i : ℕ). In (decided (record { worker = who; number = i }) g.0) k.side.facts) listed.2 g.1)) (h.over listed.0 listed.1) in
          let reads_as = true_decided z words keep w side rule m who mine f known.0 known.1 in
          q.0 ∙ sym (read_as_number n (w.control f)) ∙ ap (control_word_of n) reads_as.1 ∙ sym (h.control n known.0 (sym (h.next_number ∙ some)) known.1)

  abbrev v : World
  v = open_world w d es_of

  l : Steady w v
  l = steady_at z words keep w side rule m who mine (opens es_of) may v refl

  abbrev s : Side
  s = side_after w t who (opens es_of)

  abbrev k' : View
  k' = open_noted k size

  side_is : k'.side ≡ erased s
  side_is = (λ i. note_entries (open_side (h.side_is i) (h.next_number i)) (desc_is i) es_of (sym long i)) ∙ erased_entries (open_side t (w.next_number who)) d es_of (length es)

  abbrev then : List ℕ
  then = set words (index_of z p) (control_word_of (w.next_number who) undecided)

  size_is : v.size d ≡ size
  size_is = updated_ref_here w.size d d es_of.size refl ∙ long

  target_is : (e : ℕ) → v.target d e ≡ (entry_of es e).cell
  target_is e = ap (λ (f : ℕ → ℕ). f e) (updated_ref_here w.target d d es_of.target refl)

  old_is : (e : ℕ) → v.old d e ≡ (entry_of es e).old
  old_is e = ap (λ (f : ℕ → ℕ). f e) (updated_ref_here w.old d d es_of.old refl)

  new_is : (e : ℕ) → v.new d e ≡ (entry_of es e).new
  new_is e = ap (λ (f : ℕ → ℕ). f e) (updated_ref_here w.new d d es_of.new refl)

  next_is : v.next_number who ≡ suc k.next_number
  next_is = updated_here w.next_number who who (suc (w.next_number who)) refl ∙ ap suc (sym h.next_number)

  -- the row of the descriptor was written before
  written : (q : Part) → IsOwn z who q → word_at z then q ≡ row_word k.written (row_of z q)
  written q i = own_same z words keep w side m p mine (control_word_of (w.next_number who) undecided) v l who mine (λ o. o) q i ∙ h.written q i

  has_row : HasItsRow z then d
  has_row = written (part.Serial who) refl ∙ can.row ∙ h.next_number

  fits : size ≤ cell_count z
  fits = let all = fits_cells z es can.entries in subst (λ (n : ℕ). n ≤ cell_count z) long all

  cell : (e : ℕ) → e < size → e < cell_count z
  cell e lt = let f = fits in omega (arith, lt, f)

  below : (e : ℕ) → e < v.size d → e < size
  below e lt = subst (λ (n : ℕ). e < n) size_is lt

  in_list : (e : ℕ) → e < v.size d → e < length es
  in_list e lt = subst (λ (n : ℕ). e < n) (updated_ref_here w.size d d es_of.size refl) lt

  said : (e : ℕ) → e < size → entry_of es e ≡ entry_said k.written e
  said e lt = entries_said k.written 0 size e lt ∙ ap (entry_said k.written) (let q : 0 + e ≡ e = omega arith in q)

  new_entries : HasEntries z v d
  new_entries = record {
    within = λ e lt. subst (λ (c : ℕ). c < cell_count z) (sym (target_is e)) (can.entries.cells e (in_list e lt));
    plain_olds = λ e lt. subst (λ (n : ℕ). IsPlain n) (sym (old_is e)) (can.entries.olds e (in_list e lt));
    plain_news = λ e lt. subst (λ (n : ℕ). IsPlain n) (sym (new_is e)) (can.entries.news e (in_list e lt));
    some = subst (λ (n : ℕ). 0 < n) (sym (updated_ref_here w.size d d es_of.size refl)) can.entries.some;
    fits = subst (λ (n : ℕ). n ≤ cell_count z) (sym size_is) fits;
  }

  new_row : DescRow z then v d
  new_row = record {
    length = written (part.Length who) refl ∙ can.length_is ∙ sym size_is;
    targets = λ e lt. written (part.EntryCell who e) (refl, cell e (below e lt)) ∙ sym (ap (λ (x : Entry). x.cell) (said e (below e lt))) ∙ sym (target_is e);
    olds = λ e lt. written (part.EntryOld who e) (refl, cell e (below e lt)) ∙ sym (ap (λ (x : Entry). x.old) (said e (below e lt))) ∙ sym (old_is e);
    news = λ e lt. written (part.EntryNew who e) (refl, cell e (below e lt)) ∙ sym (ap (λ (x : Entry). x.new) (said e (below e lt))) ∙ sym (new_is e);
  }

  opened_or : (f : Ref) → IsOpened (v.control f) → (f ≡ d) ⊎ IsOpened (w.control f)
  opened_or f o = ⊎_elim (λ q. inl q.0) (λ q. inr (λ e. o (q.1 ∙ e))) (updated_ref_at w.control d f undecided)

  number_or : (f : Ref) → f ≡ d → f.worker ≡ who
  number_or f e = ap (λ (x : Ref). x.worker) e

  -- the numbers of the opened ones lie below the next
  lower : (n : ℕ) → In n (numbers_of k.opened) → n < k.next_number
  lower n i =
      let f = of_number n k.opened i in
      let q : f.0.number < w.next_number who = rule.rows.below record { worker = who; number = f.0.number } (h.opened f.0 f.1).opened in
      let a : k.next_number ≡ w.next_number who = h.next_number in
      let b : f.0.number ≡ n = f.2 in
      omega arith

  -- a descriptor that was not opened before is not noted as decided
  not_noted : (r : Control) → In (decided d r) k'.side.facts → ⊥
  not_noted r i =
      let j = no_decided (open_side k.side k.next_number) (own_desc k) es_of size d r i in
      let reads_as = true_decided z words keep w side rule m who mine d r j in
      subst IsDecided (sym reads_as.1 ∙ ap without_entry fresh) reads_as.0

  kept : Kept z then v s who k'
  kept = record {
    worker = h.worker;
    still = h.still;
    side_is = side_is;
    opening = h.opening;
    next_number = sym next_is;
    desc_room = (let q = can.room in omega (arith, q));
    no_control = λ e. absurd (let q : suc k.next_number ≡ 0 = e in omega (arith, q));
    control = λ n r is i. let same : n ≡ k.next_number = (let q : suc n ≡ suc k.next_number = is in omega (arith, q)) in
        let bad = not_noted r (subst (λ (x : ℕ). In (decided (record { worker = who; number = x }) r) k'.side.facts) (same ∙ h.next_number) i) in absurd bad;
    open_row = λ n c. subst (λ (i : ℕ). HasItsRow z then (record { worker = who; number = i }))
        (sym h.next_number ∙ some_injective k.next_number n (sym (entries_current (open_side k.side k.next_number) (own_desc k) es_of size) ∙ c)) has_row;
    failures = λ f e q. ⊎_elim
        (λ (r : (f ≡ d) × (updated_ref w.control d undecided f ≡ undecided)). let bad : undecided ≡ failed e who = sym r.1 ∙ q in cc)
        (λ (r : (f ≢ d) × (updated_ref w.control d undecided f ≡ w.control f)). entries_notes (open_side k.side k.next_number) (own_desc k) es_of size (decided f (failed 0 who)) (h.failures f e (sym r.1 ∙ q)))
        (updated_ref_at w.control d f undecided);
    marks_used = h.marks_used;
    mark_room = h.mark_room;
    written = written;
    raw_rows = λ r i. raw_row_same z words keep w side m p mine (control_word_of (w.next_number who) undecided) v l (λ o. o) r (h.raw_rows r i);
    raw = λ r i. raw_same z words keep w side m p mine (control_word_of (w.next_number who) undecided) v l (λ o. o) r (h.raw r i);
    opened = λ o i. ⊎_elim
        (λ (e : o ≡ record { number = k.next_number; entries = es }).
        subst (λ (y : OwnDesc). IsOpenedSo v (record { worker = who; number = y.number }) y) (sym e)
        (subst (λ (x : ℕ). IsOpenedSo v (record { worker = who; number = x }) record { number = x; entries = es }) (sym h.next_number) record {
          opened = λ q. let bad : undecided ≡ unused = sym (updated_ref_here w.control d d undecided refl) ∙ q in cc;
          size = updated_ref_here w.size d d es_of.size refl;
          targets = λ e b. target_is e;
          olds = λ e b. old_is e;
          news = λ e b. new_is e;
        }))
        (λ (i : In o k.opened). let f : Ref = record { worker = who; number = o.number } in let r = h.opened o i in record {
          opened = l.opened f r.opened;
          size = l.size f r.opened ∙ r.size;
          targets = λ e b. l.target f e r.opened ∙ r.targets e b;
          olds = λ e b. l.old f e r.opened ∙ r.olds e b;
          news = λ e b. l.new f e r.opened ∙ r.news e b;
        }) i;
    all = λ n o. ⊎_elim (λ e. inl (ap (λ (x : Ref). x.number) e ∙ sym h.next_number)) (λ o. inr (h.all n o)) (opened_or record { worker = who; number = n } o);
    falling = (lower, h.falling);
    over = λ o i. ⊎_elim
        (λ (e : o ≡ record { number = k.next_number; entries = es }).
        inl (entries_current (open_side k.side k.next_number) (own_desc k) es_of size ∙ ap (λ (y : OwnDesc). Some y.number) (sym e)))
        (λ (i : In o k.opened). ⊎_elim (λ q. let bad : None ≡ Some o.number = sym can.closed ∙ q in cc)
        (λ q. inr (q.0, entries_notes (open_side k.side k.next_number) (own_desc k) es_of size (decided (record { worker = who; number = o.number }) q.0) q.1)) (h.over o i)) i;
  }

  controls_open : Controls z then v
  controls_open = record {
    unopened = λ u lt e. ⊎_elim
        (λ (q : (u ≡ who) × (updated w.next_number who (suc (w.next_number who)) u ≡ suc (w.next_number who))). let bad : suc (w.next_number who) ≡ 0 = sym q.1 ∙ e in absurd (omega (arith, bad)))
        (λ (q : (u ≢ who) × (updated w.next_number who (suc (w.next_number who)) u ≡ w.next_number u)). other_word u q.0 lt ∙ m.controls.unopened u lt (sym q.1 ∙ e))
        (updated_at w.next_number who u (suc (w.next_number who)));
    newest = λ f lt e. ⊎_elim
        (λ (q : (f.worker ≡ who) × (updated w.next_number who (suc (w.next_number who)) f.worker ≡ suc (w.next_number who))).
        let same : f ≡ d = ref_path f d q.0 (let a : suc f.number ≡ suc (w.next_number who) = e ∙ q.1 in omega (arith, a)) in
        subst (λ (x : Ref). IsOpened (v.control x) × (word_at z then (part.Control x.worker) ≡ control_word_of x.number (v.control x))) (sym same)
        ((λ o. let bad : undecided ≡ unused = sym now ∙ o in cc), word_new z words p (control_word_of (w.next_number who) undecided) mine m.sized ∙ ap (control_word_of (w.next_number who)) (sym now)))
        (λ (q : (f.worker ≢ who) × (updated w.next_number who (suc (w.next_number who)) f.worker ≡ w.next_number f.worker)).
        let before = m.controls.newest f lt (e ∙ q.1) in
        let same : v.control f ≡ w.control f = updated_ref_else w.control d f undecided (λ r. q.0 (ap (λ (x : Ref). x.worker) r)) in
        ((λ o. before.0 (sym same ∙ o)), other_word f.worker q.0 lt ∙ before.1 ∙ ap (control_word_of f.number) (sym same)))
        (updated_at w.next_number who f.worker (suc (w.next_number who)));
    descs = λ f o. ⊎_elim (λ (e : f ≡ d). subst (λ (x : Ref). IsDesc z x) (sym e) (mine, subst (λ (n : ℕ). n < z.rooms.descriptors) h.next_number can.room)) (m.controls.descs f) (opened_or f o);
    withdrawals = λ f q. ⊎_elim (λ r. let bad : undecided ≡ withdrawn = sym r.1 ∙ q in cc) (λ r. m.controls.withdrawals f (sym r.1 ∙ q)) (updated_ref_at w.control d f undecided);
    deciders = λ f e by q. ⊎_elim (λ r. let bad : undecided ≡ failed e by = sym r.1 ∙ q in cc) (λ r. m.controls.deciders f e by (sym r.1 ∙ q)) (updated_ref_at w.control d f undecided);
    reasons = λ f e by q is. ⊎_elim
        (λ (r : (f ≡ d) × (updated_ref w.control d undecided f ≡ undecided)). let bad : undecided ≡ failed e by = sym r.1 ∙ q in cc)
        (λ (r : (f ≢ d) × (updated_ref w.control d undecided f ≡ w.control f)).
        let before : w.control f ≡ failed e by = sym r.1 ∙ q in
        let o : IsOpened (w.control f) = λ x. (let bad : failed e by ≡ unused = sym before ∙ x in cc) in
        ⊎_elim
        (λ (x : (f.worker ≡ who) × (updated w.next_number who (suc (w.next_number who)) f.worker ≡ suc (w.next_number who))).
        absurd (r.0 (ref_path f d x.0 (let a : suc f.number ≡ suc (w.next_number who) = is ∙ x.1 in omega (arith, a)))))
        (λ (x : (f.worker ≢ who) × (updated w.next_number who (suc (w.next_number who)) f.worker ≡ w.next_number f.worker)).
        word_same z words p (control_word_of (w.next_number who) undecided) mine (part.Reason by f.worker) (m.controls.deciders f e by before, (m.controls.descs f o).0) (λ y. cc)
        ∙ m.controls.reasons f e by before (is ∙ x.1))
        (updated_at w.next_number who f.worker (suc (w.next_number who))))
        (updated_ref_at w.control d f undecided);
  }
    where
      now : v.control d ≡ undecided
      now = updated_ref_here w.control d d undecided refl

      other_word : (u : ℕ) → u ≢ who → u < z.workers → word_at z then (part.Control u) ≡ word_at z words (part.Control u)
      other_word u ne lt = word_same z words p (control_word_of (w.next_number who) undecided) mine (part.Control u) lt (λ e. ne (let q : u ≡ who = cc in q))

  abbrev pub index : ℕ
  index = index_of z (part.Control k.worker)

  opens_to : Core v z (set words (index_of z p) (control_word_of (w.next_number who) undecided)) (updated keep who k')
  opens_to = record {
    side = updated side who s;
    rule = rule_at z words keep w side rule m who mine (opens es_of) may v refl;
    represents = represents z words then keep w v side m l who mine s k'
        (set_sized z words keep w side m p mine (control_word_of (w.next_number who) undecided) v l)
        (counter_same z words keep w side m p mine (control_word_of (w.next_number who) undecided) v l (λ q. cc) refl)
        (cells_same z words keep w side m p mine (control_word_of (w.next_number who) undecided) v l (λ c q. cc) (λ c. refl))
        controls_open
        record {
          entries = λ f o. ⊎_elim (λ (e : f ≡ d). subst (λ (x : Ref). HasEntries z v x) (sym e) new_entries) (λ (o : IsOpened (w.control f)). entries_stay z words then w v l f o (m.rows.entries f o)) (opened_or f o);
          descs = λ f o has. ⊎_elim (λ (e : f ≡ d). subst (λ (x : Ref). DescRow z then v x) (sym e) new_row)
              (λ (o : IsOpened (w.control f)). desc_row_stays z words then w v l (descs_same z words keep w side m p mine (control_word_of (w.next_number who) undecided) v l (λ o. o)) m.rows f (m.controls.descs f o) o has) (opened_or f o);
          are_marks = m.rows.are_marks;
          marks = mark_row_stays z words then w v l (marks_same z words keep w side m p mine (control_word_of (w.next_number who) undecided) v l (λ o. o)) m.rows;
          placed = placed_same z words keep w side m p mine (control_word_of (w.next_number who) undecided) v l (λ o. o) (λ j i q. q);
        }
        kept
        (others_stay z words keep w side m p mine (control_word_of (w.next_number who) undecided) v l who (λ u ne. updated_else w.next_number who u (suc (w.next_number who)) ne) (λ u ne. refl)
        (λ f ne o. ⊎_elim (λ e. absurd (ne (number_or f e))) (λ o. o) (opened_or f o)) (λ u ne o. o)
        (descs_same z words keep w side m p mine (control_word_of (w.next_number who) undecided) v l (λ o. o)) (marks_same z words keep w side m p mine (control_word_of (w.next_number who) undecided) v l (λ o. o))
        (λ u ne f e q. ⊎_elim (λ r. let bad : undecided ≡ failed e u = sym r.1 ∙ q in cc) (λ r. sym r.1 ∙ q) (updated_ref_at w.control d f undecided)));
  }

  pub keeps_open : Core v z (set words index (swapped k.control (control_word_of k.next_number undecided) (get_or words index 0))) (updated keep who (noted z k (Step.opens size) (get_or words index 0)))
  keeps_open = subst (λ (n : ℕ). (let a : ℕ = index_of z (part.Control n) in Core v z (set words a (swapped k.control (control_word_of k.next_number undecided) (get_or words a 0))) (updated keep who k'))) (sym h.worker)
      (subst (λ (n : Bool). Core v z (set words (index_of z p) (cond n (control_word_of k.next_number undecided) word)) (updated keep who k')) (sym (eq-eqb word k.control word_is))
      (subst (λ (n : ℕ). Core v z (set words (index_of z p) (control_word_of n undecided)) (updated keep who k')) (sym h.next_number) opens_to))
