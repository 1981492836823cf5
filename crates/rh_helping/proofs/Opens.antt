-- Opening an own descriptor: the row that is written says its entries, and its Open notes them.
use Rattle.std.proofs.Common.{◌≡◌, ◌≢◌, ℕ, zero, suc, ◌+◌, ◌<◌, ◌⊎◌, cond, Bool, Option, Some, None, List, [], ◌∷◌, length, get_or, refl, sym, ap, ◌∙◌, subst, inl, inr, ⊎_elim, arith, eq-eqb, ne_eqb}
use Rattle.std.specs.Prelude.{nat_lt}
use Rattle.std.proofs.lemmas.Bool.Decides.{nat_tests}
use Rattle.rh_layout.specs.declared.entry.Entry.{Entry}
use Rattle.rh_world.specs.World.{In, Ref}
use Rattle.rh_world.specs.Facts.Fact.{known, new_is, old_is, size_is, target_is}
use Rattle.rh_world.specs.Sides.{Side, open_side}
use Rattle.rh_world.specs.Moves.{Entries, note_entries}
use Rattle.rh_world.proofs.Tests.{by_cond}
use Rattle.rh_world.proofs.Updated.{same_nat, some_injective}
use Rattle.rh_words.specs.declared.shape.Shape.{Shape}
use Rattle.rh_words.specs.declared.shape.Part.TheVariants as part
use Rattle.rh_words.specs.declared.steps.StepKind.{StepKind}
use Rattle.rh_words.specs.Parts.{cell_count, entry_row}
use Rattle.rh_words.specs.View.{OwnDesc, View, Written}
use Rattle.rh_words.specs.Steps.{Allowed, AreEntries, CanOpenNext, HasRow, IsStep, Step, entries_at, entries_of, entry_of, next_entries, noted, open_noted, own_desc, row_word}
use Rattle.rh_rule.proofs.OpensKept.{entries_current, entries_length, entries_notes, fits_cells}
use Rattle.rh_carrier.specs.Relies.{Knows, Went}
use Rattle.rh_helping.specs.declared.opening.Opening.{Opening}
use Rattle.rh_helping.specs.declared.opening.Opening.TheVariants as opening
use Rattle.rh_carrier.specs.Own.{IsAllNoted, KnowsOwn, OwesNothing}
use Rattle.rh_helping.specs.Made.{HasStepped, kind_of}
use Rattle.rh_helping.specs.Opening.{HasCell, HasNew, HasOld, HasWritten, IsOpening, MayOpen, OpensOn, after_opening, kind_of_opening, next_own, opened_after, opening_step}
use Rattle.rh_helping.proofs.Growing.{noted_sub, owns_sub}
use Rattle.rh_helping.proofs.Knowing.{allowed}
use Rattle.rh_helping.proofs.OwnRows.{entry_is}
use Rattle.rh_helping.proofs.Made.{Leaves, leaves, stepped}

-- ---- the words of a row

abbrev row : (r u : ℕ) → Written
row r u = record { row = r; word = u }

row_here : (rows : List Written) (r u : ℕ) → row_word (row r u ∷ rows) r ≡ u
row_here rows r u = ap (λ (b : Bool). cond b u (row_word rows r)) (eq-eqb r r refl)

row_there : (rows : List Written) (r u q : ℕ) → q ≢ r → row_word (row r u ∷ rows) q ≡ row_word rows q
row_there rows r u q ne = ap (λ (b : Bool). cond b u (row_word rows q)) (ne_eqb q r ne)

abbrev with_row : View → (r u : ℕ) → View
with_row v r u = record v { written = row r u ∷ v.written }

may_with : (z : Shape) (v : View) (es : List Entry) (r u : ℕ) → MayOpen z v es → MayOpen z (with_row v r u) es
may_with z v es r u h = record {
  owns = owns_sub v (with_row v r u) (record { worker = refl; next_number = refl; facts = λ n i. i }) None None refl h.owns.current h.owns.newest (λ n e. e) h.owns;
  owes = record { settled = h.owes.settled; paid = h.owes.paid; unreleased = h.owes.unreleased };
  entries = h.entries;
  room = h.room;
}

length_written : (v : View) (es : List Entry) → HasRow v → HasWritten (with_row v 2 (length es)) es 0
length_written v es h = record {
  row = row_there v.written 2 (length es) 1 (λ q. omega arith) ∙ h;
  size = row_here v.written 2 (length es);
  cells = λ f l. absurd (omega arith);
  olds = λ f l. absurd (omega arith);
  news = λ f l. absurd (omega arith);
}

module _ (v : View) (es : List Entry) (e w u : ℕ) (high : w < 3) where
  abbrev then : View
  then = with_row v (entry_row e w) u

  word_here : row_word then.written (entry_row e w) ≡ u
  word_here = row_here v.written (entry_row e w) u

  word_there : (f x : ℕ) → x < 3 → f < e ⊎ (x ≢ w) → row_word then.written (entry_row f x) ≡ row_word v.written (entry_row f x)
  word_there f x l other = row_there v.written (entry_row e w) u (entry_row f x)
      (⊎_elim (λ (less : f < e). λ q. omega arith) (λ (ne : x ≢ w). λ q. ne (omega arith)) other)

  written_stays : HasWritten v es e → HasWritten then es e
  written_stays h = record {
    row = row_there v.written (entry_row e w) u 1 (λ q. omega arith) ∙ h.row;
    size = row_there v.written (entry_row e w) u 2 (λ q. omega arith) ∙ h.size;
    cells = λ f l. word_there f 0 (omega arith) (inl l) ∙ h.cells f l;
    olds = λ f l. word_there f 1 (omega arith) (inl l) ∙ h.olds f l;
    news = λ f l. word_there f 2 (omega arith) (inl l) ∙ h.news f l;
  }

-- all words of the e-th entry are written
entry_written : (v : View) (es : List Entry) (e : ℕ) → HasWritten v es e → HasCell v es e → HasOld v es e → HasNew v es e → HasWritten v es (suc e)
entry_written v es e h cell old new = record {
  row = h.row;
  size = h.size;
  cells = λ f l. up_to (λ f. HasCell v es f) f h.cells cell l;
  olds = λ f l. up_to (λ f. HasOld v es f) f h.olds old l;
  news = λ f l. up_to (λ f. HasNew v es f) f h.news new l;
}
  where
    up_to : (P : ℕ → Type 0) (f : ℕ) → ((g : ℕ) → g < e → P g) → P e → f < suc e → P f
    up_to P f before at l = ⊎_elim (λ (q : f ≡ e). subst P (sym q) at) (λ (ne : f ≢ e). before f (omega arith)) (same_nat f e)

-- ---- the row that is written whole

same_entry : (a b : Entry) → a.cell ≡ b.cell → a.old ≡ b.old → a.new ≡ b.new → a ≡ b
same_entry a b c o n = λ i. record { cell = c i; old = o i; new = n i }

abbrev Says : List Written → (from : ℕ) → List Entry → Type 0
Says rows from act = (f : ℕ) → f < length act
    → (row_word rows (entry_row (from + f) 0) ≡ (entry_of act f).cell) × (row_word rows (entry_row (from + f) 1) ≡ (entry_of act f).old)
    × (row_word rows (entry_row (from + f) 2) ≡ (entry_of act f).new)

rows_say : (rows : List Written) (act : List Entry) (from : ℕ) → Says rows from act → entries_at rows from (length act) ≡ act
rows_say rows [] from h = refl
rows_say rows (a ∷ act) from h =
    let q : from + 0 ≡ from = omega arith in
    let first = h 0 (omega arith) in
    let at = λ (w : ℕ). ap (λ (p : ℕ). row_word rows (entry_row p w)) (sym q) in
    let head : record { cell = row_word rows (entry_row from 0); old = row_word rows (entry_row from 1); new = row_word rows (entry_row from 2) } ≡ a =
    same_entry _ a (at 0 ∙ first.0) (at 1 ∙ first.1) (at 2 ∙ first.2) in
    let rest = rows_say rows act (suc from) (λ f l.
    let r : suc from + f ≡ from + suc f = omega arith in
    let next = h (suc f) (omega arith) in
    let to = λ (w : ℕ). ap (λ (p : ℕ). row_word rows (entry_row p w)) r in
    (to 0 ∙ next.0, to 1 ∙ next.1, to 2 ∙ next.2)) in
    λ i. head i ∷ rest i

says : (v : View) (es : List Entry) → HasWritten v es (length es) → next_entries v (length es) ≡ es
says v es h = rows_say v.written es 0 (λ f l.
    let q : f ≡ 0 + f = omega arith in
    let at = λ (w : ℕ). ap (λ (p : ℕ). row_word v.written (entry_row p w)) (sym q) in
    (at 0 ∙ h.cells f l, at 1 ∙ h.olds f l, at 2 ∙ h.news f l))

-- ---- what an Open notes

record Same (s t : Side) : Type 0 where
  pub unsettled : t.unsettled ≡ s.unsettled
  pub debts : t.debts ≡ s.debts
  pub released : t.released ≡ s.released
  pub claims : t.claims ≡ s.claims
  pub reads : t.reads ≡ s.reads

module _ (s : Side) (d : Ref) (p : Entries) where
  entries_same : (n : ℕ) → Same s (note_entries s d p n)
  entries_same zero = record { unsettled = refl; debts = refl; released = refl; claims = refl; reads = refl }
  entries_same (suc n) = let h = entries_same n in record { unsettled = h.unsettled; debts = h.debts; released = h.released; claims = h.claims; reads = h.reads }

  entries_known : (n : ℕ) → In (known d) (note_entries s d p n).facts
  entries_known zero = inr (inl refl)
  entries_known (suc n) = inr (inr (inr (entries_known n)))

  entries_size : (n : ℕ) → In (size_is d p.size) (note_entries s d p n).facts
  entries_size zero = inl refl
  entries_size (suc n) = inr (inr (inr (entries_size n)))

  entries_cell : (n e : ℕ) → e < n → In (target_is d e (p.target e)) (note_entries s d p n).facts
  entries_cell zero e l = absurd (omega arith)
  entries_cell (suc n) e l = ⊎_elim (λ (q : e ≡ n). inr (inr (inl (ap (λ (f : ℕ). target_is d f (p.target f)) q)))) (λ (ne : e ≢ n). inr (inr (inr (entries_cell n e (omega arith))))) (same_nat e n)

  entries_old : (n e : ℕ) → e < n → In (old_is d e (p.old e)) (note_entries s d p n).facts
  entries_old zero e l = absurd (omega arith)
  entries_old (suc n) e l = ⊎_elim (λ (q : e ≡ n). inr (inl (ap (λ (f : ℕ). old_is d f (p.old f)) q))) (λ (ne : e ≢ n). inr (inr (inr (entries_old n e (omega arith))))) (same_nat e n)

  entries_new : (n e : ℕ) → e < n → In (new_is d e (p.new e)) (note_entries s d p n).facts
  entries_new zero e l = absurd (omega arith)
  entries_new (suc n) e l = ⊎_elim (λ (q : e ≡ n). inl (ap (λ (f : ℕ). new_is d f (p.new f)) q)) (λ (ne : e ≢ n). inr (inr (inr (entries_new n e (omega arith))))) (same_nat e n)

-- ---- the Open

module _ (z : Shape) (v : View) (es : List Entry) (may : MayOpen z v es) (written : HasWritten v es (length es)) where
  can_open : CanOpenNext z v (length es)
  can_open = record {
    row = written.row;
    length_is = written.size;
    entries = subst (AreEntries z) (sym (says v es written)) may.entries;
    room = may.room;
    closed = may.owns.current;
  }

  abbrev side : Side
  side = open_side v.side v.next_number

  abbrev entries : Entries
  entries = entries_of (next_entries v (length es))

  abbrev after : View
  after = open_noted v (length es)

  own_noted : IsAllNoted after (record { number = v.next_number; entries = next_entries v (length es) })
  own_noted =
      let size = entries_length v.written 0 (length es) in
      record {
        known = entries_known side (own_desc v) entries (length es);
        size = entries_size side (own_desc v) entries (length es);
        cells = λ e l. entries_cell side (own_desc v) entries (length es) e (omega (arith, size));
        olds = λ e l. entries_old side (own_desc v) entries (length es) e (omega (arith, size));
        news = λ e l. entries_new side (own_desc v) entries (length es) e (omega (arith, size));
      }

  is_next : record { number = v.next_number; entries = next_entries v (length es) } ≡ next_own v es
  is_next = ap (λ (l : List Entry). record { number = v.next_number; entries = l }) (says v es written)

  knows : KnowsOwn after (Some (next_own v es))
  knows = subst (λ (o : OwnDesc). KnowsOwn after (Some o)) is_next record {
    owns = record {
      current = entries_current side (own_desc v) entries (length es);
      newest = refl;
      noted = λ o i. ⊎_elim (λ (q : o ≡ record { number = v.next_number; entries = next_entries v (length es) }). subst (IsAllNoted after) (sym q) own_noted)
          (λ (i : In o v.opened). noted_sub v after refl (λ n j. entries_notes side (own_desc v) entries (length es) n j) o (may.owns.noted o i)) i;
      last = λ n e. ap suc (sym (some_injective v.next_number n (sym (entries_current side (own_desc v) entries (length es)) ∙ e)));
    };
    row = λ n e. written.row ∙ (let q : v.next_number ≡ n = omega (arith, e) in q);
  }

  owes : OwesNothing after
  owes =
      let same = entries_same side (own_desc v) entries (length es) in
      record { settled = same.unsettled ∙ may.owes.settled; paid = same.debts ∙ may.owes.paid; unreleased = same.released }

  open_leaves : Leaves (next_own v es ∷ v.opened) v.side.reads v after
  open_leaves =
      let same = entries_same side (own_desc v) entries (length es) in
      record {
        opened = ap (λ (o : OwnDesc). o ∷ v.opened) is_next;
        reads = same.reads;
        claims = same.claims;
        facts = λ n i. entries_notes side (own_desc v) entries (length es) n i;
      }

-- ---- each step

abbrev none : Entry
none = record { cell = 0; old = 0; new = 0 }

-- what is asked for of an entry
module _ (v : View) (es : List Entry) (e w : ℕ) (worker : v.worker ≡ w) (inside : e < length es) where
  pub asks_cell : Step.writes (part.EntryCell w e) (get_or es e none).cell ≡ opening_step v es (opening.Cell e)
  asks_cell = λ i. Step.writes (part.EntryCell (sym worker i) e) (sym (entry_is es e none inside) i).cell

  pub asks_old : Step.writes (part.EntryOld w e) (get_or es e none).old ≡ opening_step v es (opening.Old e)
  asks_old = λ i. Step.writes (part.EntryOld (sym worker i) e) (sym (entry_is es e none inside) i).old

  pub asks_new : Step.writes (part.EntryNew w e) (get_or es e none).new ≡ opening_step v es (opening.New e)
  asks_new = λ i. Step.writes (part.EntryNew (sym worker i) e) (sym (entry_is es e none inside) i).new

module _ (z : Shape) (v : View) (es : List Entry) (may : MayOpen z v es) where
  inside : (e : ℕ) → e < length es → e < cell_count z
  inside e less = let all = fits_cells z es may.entries in omega (arith, less, all)

  is_step : (o : Opening) → IsOpening v es o → IsStep z v (opening_step v es o)
  is_step opening.Serial h = (refl, may.owns.current, refl, may.room)
  is_step opening.Length h = (refl, may.owns.current, h)
  is_step (opening.Cell e) h = (refl, may.owns.current, h.1.row, inside e h.0)
  is_step (opening.Old e) h = (refl, may.owns.current, h.1.row, inside e h.0)
  is_step (opening.New e) h = (refl, may.owns.current, h.1.row, inside e h.0)
  is_step opening.Open h = can_open z v es may h

  pub may_step : Knows z v → (o : Opening) (s : Step) → IsOpening v es o → s ≡ opening_step v es o → Allowed z v s
  may_step knows o s h is = subst (Allowed z v) (sym is) (allowed z v knows _ (is_step o h))

  step_leaves : (o : Opening) (word : ℕ) → IsOpening v es o → Leaves (opened_after v es (after_opening (length es) o)) v.side.reads v (noted z v (opening_step v es o) word)
  step_leaves opening.Serial word h = leaves z v (opening_step v es opening.Serial) word tt
  step_leaves opening.Length word h = leaves z v (opening_step v es opening.Length) word tt
  step_leaves (opening.Cell e) word h = leaves z v (opening_step v es (opening.Cell e)) word tt
  step_leaves (opening.Old e) word h = leaves z v (opening_step v es (opening.Old e)) word tt
  step_leaves (opening.New e) word h = by_cond (λ (o : Option Opening). Leaves (opened_after v es o) v.side.reads v (noted z v (opening_step v es (opening.New e)) word)) (nat_lt (suc e) (length es)) _ _
      (λ q. leaves z v (opening_step v es (opening.New e)) word tt) (λ q. leaves z v (opening_step v es (opening.New e)) word tt)
  step_leaves opening.Open word h = open_leaves z v es may h

  is_kind : (o : Opening) → kind_of (opening_step v es o) ≡ kind_of_opening o
  is_kind opening.Serial = refl
  is_kind _ = refl

  pub opening_made : {T : Type 0} {shows : Shape → T → View → Type 0} {makes : Shape → Step → T → View → ℕ → T → View → Type 0} (o : Opening) (s : Step) (t : T) (word : ℕ) (then : T) (next : View) (on : Option Opening)
      → Knows z v → IsOpening v es o → s ≡ opening_step v es o → on ≡ after_opening (length es) o → Went shows makes z s t v word then next
      → HasStepped shows makes z (kind_of_opening o) (opened_after v es on) v.side.reads t v then next
  opening_made {T} {shows} {makes} o s t word then next on knows h is on_is to =
      subst (λ (k : StepKind). HasStepped shows makes z k (opened_after v es on) v.side.reads t v then next) (ap kind_of is ∙ is_kind o)
      (stepped z s t v word then next (opened_after v es on) v.side.reads
      (subst (λ (a : Option Opening). Leaves (opened_after v es a) v.side.reads v (noted z v s word)) (sym on_is)
      (subst (λ (x : Step). Leaves (opened_after v es (after_opening (length es) o)) v.side.reads v (noted z v x word)) (sym is) (step_leaves o word h)))
      (may_step knows o s h is) to)

  leads_on : (o : Opening) (word : ℕ) → IsOpening v es o → OpensOn z es v (noted z v (opening_step v es o) word) (after_opening (length es) o)
  leads_on opening.Serial word h =
      (may_with z v es 1 v.next_number may, row_here v.written 1 v.next_number, refl)
  leads_on opening.Length word h =
      (may_with z v es 2 (length es) may, (may.entries.some, length_written v es h), refl)
  leads_on (opening.Cell e) word h = (
    may_with z v es (entry_row e 0) (entry_of es e).cell may,
    (h.0, written_stays v es e 0 (entry_of es e).cell (omega arith) h.1, word_here v es e 0 (entry_of es e).cell (omega arith)),
    refl,
  )
  leads_on (opening.Old e) word h = (
    may_with z v es (entry_row e 1) (entry_of es e).old may,
    (
      h.0,
      written_stays v es e 1 (entry_of es e).old (omega arith) h.1,
      word_there v es e 1 (entry_of es e).old (omega arith) e 0 (omega arith) (inr (λ q. omega arith)) ∙ h.2,
      word_here v es e 1 (entry_of es e).old (omega arith),
    ),
    refl,
  )
  leads_on (opening.New e) word h =
      let u = (entry_of es e).new in
      let next = with_row v (entry_row e 2) u in
      let all = entry_written next es e (written_stays v es e 2 u (omega arith) h.1)
      (word_there v es e 2 u (omega arith) e 0 (omega arith) (inr (λ q. omega arith)) ∙ h.2)
      (word_there v es e 2 u (omega arith) e 1 (omega arith) (inr (λ q. omega arith)) ∙ h.3)
      (word_here v es e 2 u (omega arith)) in
      let may_on = may_with z v es (entry_row e 2) u may in
      by_cond (λ (o : Option Opening). OpensOn z es v next o) (nat_lt (suc e) (length es)) _ _
      (λ q. (may_on, (grind (arith, nat_tests), all), refl))
      (λ q. (may_on, subst (λ (n : ℕ). HasWritten next es n) (let less = h.0 in grind (arith, nat_tests)) all, refl))
  leads_on opening.Open word h = (knows z v es may h, owes z v es may h)

  pub opening_leads : (o : Opening) (s : Step) (word : ℕ) (next : View) (on : Option Opening) → IsOpening v es o → s ≡ opening_step v es o
      → next ≡ noted z v s word → on ≡ after_opening (length es) o → OpensOn z es v next on
  opening_leads o s word next on h is view_is after_is =
      subst (λ (a : Option Opening). OpensOn z es v next a) (sym after_is)
      (subst (λ (x : View). OpensOn z es v x (after_opening (length es) o)) (sym (view_is ∙ ap (λ (x : Step). noted z v x word) is)) (leads_on o word h))
