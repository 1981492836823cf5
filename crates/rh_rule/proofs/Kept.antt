-- What stays of a representation, and how a new one is put together.
use Rattle.std.proofs.Common.{suc, ◌≡◌, ◌≢◌, ℕ, ◌<◌, ◌≤◌, ◌⊎◌, List, length, sym, ap, ◌∙◌, subst, inl, inr, ⊎_elim, arith, Some}
use Rattle.rh_world.specs.World.{Control, In, IsOpened, IsUsed, Ref, World, updated}
use Rattle.rh_world.specs.World.Cell.{mark}
use Rattle.rh_world.specs.World.Control.{failed}
use Rattle.rh_world.specs.Facts.{Fact}
use Rattle.rh_world.specs.Facts.Fact.{decided}
use Rattle.rh_world.specs.Later.{Steady}
use Rattle.rh_world.specs.Sides.{Side}
use Rattle.rh_world.proofs.Updated.{updated_at, updated_else, updated_here}
use Rattle.rh_words.specs.declared.shape.Shape.{Shape}
use Rattle.rh_words.specs.declared.shape.Part.{Part}
use Rattle.rh_words.specs.declared.shape.Part.TheVariants as part
use Rattle.rh_words.specs.Parts.{cell_count, word_count}
use Rattle.rh_words.specs.View.{MarkWord, OwnDesc, Raw, RawRow, RowWord, View}
use Rattle.rh_words.specs.View.RowWord.{length_word, cell_word, old_word, new_word}
use Rattle.rh_words.specs.View.MarkWord.{desc_word, entry_word}
use Rattle.rh_words.specs.Words.{desc_number, control_word_of}
use Rattle.rh_words.specs.Steps.{IsDesc, IsMark}
use Rattle.rh_rule.specs.Erased.{erased}
use Rattle.rh_rule.specs.Represents.{Cells, Controls, DescRow, HasEntries, HasItsRow, IsOwn, IsRaw, IsRawRow, IsRowSaid, IsSaid, Kept, MarkRow, RowWords, MarkStands, word_at, Represents}

-- an opened descriptor that has its row after a step had it before, and the row says the same
pub record DescStays (z : Shape) (words then : List ℕ) (d : Ref) : Type 0 where
  pub had : HasItsRow z words d
  pub length : word_at z then (part.Length d.worker) ≡ word_at z words (part.Length d.worker)
  pub cells : (e : ℕ) → e < cell_count z → word_at z then (part.EntryCell d.worker e) ≡ word_at z words (part.EntryCell d.worker e)
  pub olds : (e : ℕ) → e < cell_count z → word_at z then (part.EntryOld d.worker e) ≡ word_at z words (part.EntryOld d.worker e)
  pub news : (e : ℕ) → e < cell_count z → word_at z then (part.EntryNew d.worker e) ≡ word_at z words (part.EntryNew d.worker e)

abbrev pub DescsStay : Shape → (words then : List ℕ) → World → Type 0
DescsStay z words then w = (d : Ref) → IsDesc z d → IsOpened (w.control d) → HasItsRow z then d → DescStays z words then d

-- a used mark whose row stands after a step had it before, and the row says the same
pub record RowStays (z : Shape) (words then : List ℕ) (x : Ref) : Type 0 where
  pub stood : MarkStands z words x
  pub desc : word_at z then (part.MarkDesc x.worker) ≡ word_at z words (part.MarkDesc x.worker)
  pub entry : word_at z then (part.MarkEntry x.worker) ≡ word_at z words (part.MarkEntry x.worker)

abbrev pub MarksStay : Shape → (words then : List ℕ) → World → Type 0
MarksStay z words then w = (x : Ref) → IsMark z x → IsUsed w x → MarkStands z then x → RowStays z words then x

-- what is kept of which descriptors are over
abbrev pub Over : (who : ℕ) → List OwnDesc → Side → Type 0
Over who opened s = (o : OwnDesc) → In o opened
    → (s.current ≡ Some o.number) ⊎ ((r : Control) × In (decided (record { worker = who; number = o.number }) r) s.facts)

-- what the Side of a worker, and its control word as it was last seen, are to meet
pub record Meets (z : Shape) (words : List ℕ) (w : World) (u : ℕ) (k : View) (x : Side) (c : ℕ) : Type 0 where
  pub over : Over u k.opened x
  pub no_control : k.next_number ≡ 0 → c ≡ 0
  pub control : (n : ℕ) (r : Control) → suc n ≡ k.next_number → In (decided (record { worker = u; number = n }) r) x.facts → c ≡ control_word_of n r
  pub open_row : (n : ℕ) → x.current ≡ Some n → HasItsRow z words (record { worker = u; number = n })
  pub failures : (d : Ref) (e : ℕ) → w.control d ≡ failed e u → In (decided d (failed 0 u)) x.facts

-- a Side that knows more, with the same descriptor open
pub record Grows (s t : Side) : Type 0 where
  pub current : t.current ≡ s.current
  pub facts : (n : Fact) → In n s.facts → In n t.facts

-- a Side that knows more, but of no control, and opens nothing
pub record Quiet (s t : Side) : Type 0 where
  pub current : (n : ℕ) → t.current ≡ Some n → s.current ≡ Some n
  pub facts : (n : Fact) → In n s.facts → In n t.facts
  pub decided : (d : Ref) (r : Control) → In (Fact.decided d r) t.facts → In (Fact.decided d r) s.facts

pub over_grows : (s t : Side) (u : ℕ) (opened : List OwnDesc) → Grows s t → Over u opened s → Over u opened t
over_grows s t u opened g over o i = ⊎_elim (λ c. inl (g.current ∙ c)) (λ n. inr (n.0, g.facts (decided (record { worker = u; number = o.number }) n.0) n.1)) (over o i)

module _ (z : Shape) (words then : List ℕ) (w v : World) (l : Steady w v) where
  -- the rows
  pub entries_stay : (d : Ref) → IsOpened (w.control d) → HasEntries z w d → HasEntries z v d
  entries_stay d o r =
      let size : v.size d ≡ w.size d = l.size d o in
      let some : 0 < w.size d = r.some in
      let fits : w.size d ≤ cell_count z = r.fits in
      let inside : (e : ℕ) → e < v.size d → e < w.size d = λ e h. subst (λ (n : ℕ). e < n) size h in
      record {
        within = λ e h. subst (λ (c : ℕ). c < cell_count z) (sym (l.target d e o)) (r.within e (inside e h));
        plain_olds = λ e h. ap (λ (n : ℕ). Rattle.rh_tagword.specs.Word.tag_of n) (l.old d e o) ∙ r.plain_olds e (inside e h);
        plain_news = λ e h. ap (λ (n : ℕ). Rattle.rh_tagword.specs.Word.tag_of n) (l.new d e o) ∙ r.plain_news e (inside e h);
        some = omega arith;
        fits = omega arith;
      }

  row_said_stays : (d : Ref) (u : RowWord) → IsOpened (w.control d) → IsRowSaid w d u → IsRowSaid v d u
  row_said_stays d (length_word n) o s = s ∙ sym (l.size d o)
  row_said_stays d (cell_word e n) o s = s ∙ sym (l.target d e o)
  row_said_stays d (old_word e n) o s = s ∙ sym (l.old d e o)
  row_said_stays d (new_word e n) o s = s ∙ sym (l.new d e o)

  pub desc_row_stays : DescsStay z words then w → RowWords z words w → (d : Ref) → IsDesc z d → IsOpened (w.control d) → HasItsRow z then d
      → DescRow z then v d
  desc_row_stays same rows d is o has =
      let s = same d is o has in
      let r = rows.descs d o s.had in
      let size : v.size d ≡ w.size d = l.size d o in
      let fits : w.size d ≤ cell_count z = (rows.entries d o).fits in
      let inside : (e : ℕ) → e < v.size d → e < w.size d = λ e h. subst (λ (n : ℕ). e < n) size h in
      let cell : (e : ℕ) → e < v.size d → e < cell_count z = λ e h. (let i = inside e h in omega (arith, i, fits)) in
      record {
        length = s.length ∙ r.length ∙ sym size;
        targets = λ e h. s.cells e (cell e h) ∙ r.targets e (inside e h) ∙ sym (l.target d e o);
        olds = λ e h. s.olds e (cell e h) ∙ r.olds e (inside e h) ∙ sym (l.old d e o);
        news = λ e h. s.news e (cell e h) ∙ r.news e (inside e h) ∙ sym (l.new d e o);
      }

  pub raw_row_stays : DescsStay z words then w → ((d : Ref) → IsOpened (w.control d) → IsDesc z d) → (r : RawRow) → IsRawRow z words w r
      → IsRawRow z then v r
  raw_row_stays same are r h = record {
    opened = l.opened r.desc h.opened;
    said = λ s. row_said_stays r.desc r.word h.opened (h.said (same r.desc (are r.desc h.opened) h.opened s).had);
  }

  said_stays : (x : Ref) (n : MarkWord) → IsUsed w x → IsSaid w x n → IsSaid v x n
  said_stays x (desc_word n) u s = s ∙ ap desc_number (sym (l.mark_desc x u))
  said_stays x (entry_word n) u s = s ∙ sym (l.mark_entry x u)

  pub mark_row_stays : MarksStay z words then w → RowWords z words w → (x : Ref) → IsUsed w x → MarkStands z then x
      → MarkRow z then v x
  mark_row_stays same rows x u stands =
      let s = same x (rows.are_marks x u) u stands in let r = rows.marks x u s.stood in record {
        desc = s.desc ∙ said_stays x (desc_word (word_at z words (part.MarkDesc x.worker))) u r.desc;
        entry = s.entry ∙ said_stays x (entry_word (word_at z words (part.MarkEntry x.worker))) u r.entry;
      }

  pub raw_stays : MarksStay z words then w → RowWords z words w → (r : Raw) → IsRaw z words w r → IsRaw z then v r
  raw_stays same rows r h = record {
    used = l.marks r.mark h.used;
    said = λ s. said_stays r.mark r.word h.used (h.said (same r.mark (rows.are_marks r.mark h.used) h.used s).stood);
  }

  -- where nothing is opened and no mark is placed
  pub rows_stay : ((d : Ref) → IsOpened (w.control d) → IsDesc z d) → ((d : Ref) → IsOpened (v.control d) → IsOpened (w.control d))
      → ((x : Ref) → IsUsed v x → IsUsed w x) → DescsStay z words then w → MarksStay z words then w
      → ((j : ℕ) (x : Ref) → j < cell_count z → v.cell j ≡ mark x → MarkStands z then x) → RowWords z words w → RowWords z then v
  rows_stay are back fewer descs marks placed r = record {
    entries = λ d o. let h = back d o in entries_stay d h (r.entries d h);
    descs = λ d o. let h = back d o in desc_row_stays descs r d (are d h) h;
    are_marks = λ x u. r.are_marks x (fewer x u);
    marks = λ x u. mark_row_stays marks r x (fewer x u);
    placed = placed;
  }

  -- what is kept of a worker, but for its Side, its control word as it was last seen, and what it read in rows
  pub kept_stays : (s t : Side) (u : ℕ) (k : View) (x : Side) (c : ℕ) (rows : List RawRow) (rs : List Raw) → v.next_number u ≡ w.next_number u
      → v.marks_used u ≡ w.marks_used u
      → ((n : ℕ) → IsOpened (v.control (record { worker = u; number = n })) → IsOpened (w.control (record { worker = u; number = n })))
      → ((q : Part) → IsOwn z u q → word_at z then q ≡ word_at z words q)
      → ((r : RawRow) → In r rows → IsRawRow z then v r) → ((r : Raw) → In r rs → IsRaw z then v r) → x ≡ erased t
      → Meets z then v u k x c → Kept z words w s u k → Kept z then v t u (record k { side = x; control = c; raw_rows = rows; raw = rs })
  kept_stays s t u k x c rows rs numbers marks back same raw_rows raw side_is meets h = record {
    worker = h.worker;
    still = h.still;
    side_is = side_is;
    opening = λ c i. h.opening c i ∙ sym (l.logical 0 c (omega arith));
    next_number = h.next_number ∙ sym numbers;
    desc_room = h.desc_room;
    no_control = meets.no_control;
    control = meets.control;
    open_row = meets.open_row;
    failures = meets.failures;
    marks_used = h.marks_used ∙ sym marks;
    mark_room = h.mark_room;
    written = λ q i. same q i ∙ h.written q i;
    raw_rows = raw_rows;
    raw = raw;
    opened = λ o i. let d : Ref = record { worker = u; number = o.number } in let t = h.opened o i in record {
      opened = l.opened d t.opened;
      size = l.size d t.opened ∙ t.size;
      targets = λ e b. l.target d e t.opened ∙ t.targets e b;
      olds = λ e b. l.old d e t.opened ∙ t.olds e b;
      news = λ e b. l.new d e t.opened ∙ t.news e b;
    };
    all = λ n o. h.all n (back n o);
    falling = h.falling;
    over = meets.over;
  }

  -- where no control is noted
  pub quiet : (s : Side) (u : ℕ) (k : View) (x : Side) → Kept z words w s u k → Quiet k.side x → Over u k.opened x
      → word_at z then (part.Serial u) ≡ word_at z words (part.Serial u) → ((d : Ref) (e : ℕ) → v.control d ≡ failed e u → w.control d ≡ failed e u)
      → Meets z then v u k x k.control
  quiet s u k x h q over serial fails = record {
    over = over;
    no_control = h.no_control;
    control = λ n r is i. h.control n r is (q.decided (record { worker = u; number = n }) r i);
    open_row = λ n c. serial ∙ h.open_row n (q.current n c);
    failures = λ d e f. q.facts (decided d (failed 0 u)) (h.failures d e (fails d e f));
  }

-- the parts of a new representation
module _ (z : Shape) (words then : List ℕ) (keep : ℕ → View) (w v : World) (side : ℕ → Side) (m : Represents z words keep w side) (l : Steady w v) (who : ℕ) (mine : who < z.workers) (s : Side) (k : View) where
  pub represents : length then ≡ word_count z → word_at z then part.Counter ≡ v.counter → Cells z then v
      → Controls z then v → RowWords z then v → Kept z then v s who k
      → ((u : ℕ) → u < z.workers → u ≢ who → Kept z then v (side u) u (keep u))
      → Represents z then (updated keep who k) v (updated side who s)
  represents sized counter cells controls rows own others = record {
    sized = sized;
    workers = l.workers ∙ m.workers;
    keys = l.keys ∙ m.keys;
    counter = counter;
    cells = cells;
    controls = controls;
    rows = rows;
    kept = λ u h. ⊎_elim
        (λ (p : (u ≡ who) × (updated keep who k u ≡ k)).
        subst (λ (x : Side). Kept z then v x u (updated keep who k u)) (sym (updated_here side who u s p.0))
        (subst (λ (x : View). Kept z then v s u x) (sym p.1) (subst (λ (x : ℕ). Kept z then v s x k) (sym p.0) own)))
        (λ (p : (u ≢ who) × (updated keep who k u ≡ keep u)).
        subst (λ (x : Side). Kept z then v x u (updated keep who k u)) (sym (updated_else side who u s p.0))
        (subst (λ (x : View). Kept z then v (side u) u x) (sym p.1) (others u h p.0)))
        (updated_at keep who u k);
    beyond = λ u h. updated_else side who u s (λ e. let q : u < z.workers = subst (λ (x : ℕ). x < z.workers) (sym e) mine in absurd (omega arith)) ∙ m.beyond u h;
  }
