-- What a cell stands for is what the words say of it, and what the workers noted.
use Rattle.std.proofs.Common.{List, ◌≡◌, ◌≢◌, ℕ, zero, suc, ◌<◌, ◌≤◌, true, ◌||◌, inl, inr, ⊎_elim, refl, sym, ap, ◌∙◌, arith, cond, eq-eqb, ne_eqb, get_or, subst, Some}
use Rattle.std.proofs.lemmas.Bool.{cases_lt, eqb-true, or_cases, or_left, or_right}
use Rattle.rh_world.specs.World.{Cell, Control, In, IsOpened, Ref, World}
use Rattle.rh_world.specs.World.Cell.{desc, mark, plain}
use Rattle.rh_world.specs.World.Control.{succeeded, unused}
use Rattle.rh_world.specs.Facts.{Fact}
use Rattle.rh_world.specs.Facts.Fact.{decided, desc_is, found, old_is, target_is}
use Rattle.rh_world.specs.Rows.{ByDebt, ByPlacer}
use Rattle.rh_world.specs.Rule.{Rule}
use Rattle.rh_world.specs.Sides.{Side}
use Rattle.rh_world.specs.Acts.{cells_after, is_success}
use Rattle.rh_world.specs.Logical.{EntryStandsFor, StandsFor as StandsInWorld, entry_value}
use Rattle.rh_world.proofs.ActsKept.{one_entry}
use Rattle.rh_world.proofs.OwnList.{success_yes}
use Rattle.rh_world.proofs.Updated.{same_nat}
use Rattle.rh_words.specs.declared.shape.Shape.{Shape}
use Rattle.rh_words.specs.declared.shape.Part.TheVariants as part
use Rattle.rh_words.specs.Parts.{cell_count}
use Rattle.rh_words.specs.View.{OwnDesc, View, own_ref}
use Rattle.rh_words.specs.Words.{cell_in, control_word_of, read_control, serial_in, without_entry}
use Rattle.rh_rule.specs.Represents.{DescRow, HasItsRow, IsCell, Represents, word_at}
use Rattle.rh_rule.specs.Core.{Core}
use Rattle.rh_rule.specs.Rest.{is_noted_success}
use Rattle.rh_rule.proofs.Deciders.{read_as_succeeded}
use Rattle.rh_rule.proofs.ReadsKept.{control_stale, newest_word, reads_desc_control, row_stale, true_note, work_known}
use Rattle.rh_rule.proofs.Said.{cell_said_is, control_said_is, serial_said_is}
use Rattle.rh_rule.proofs.Telling.{in_noted, noted_in, same_bool, tells}
use Rattle.rh_order.specs.Known.{KnowsHeld, NotesOld}
use Rattle.rh_order.specs.Laws.{LogicalWords, WordsLeadInside, WordsStand}
use Rattle.rh_order.specs.Words.{StaleStandsFor, HoldsCell, IsLogicalWord, LeadsInside, MarkIsFor, MarkStandsFor, RowStandsFor, WordStandsFor, entry_for, has_succeeded, value_in}

counts_new : (k : Control) (old new : ℕ) → cond (is_success k) new old ≡ entry_value k old new
counts_new unused old new = refl
counts_new _ old new = refl

counts_old : (k : Control) (old new : ℕ) → k ≢ succeeded → entry_value k old new ≡ old
counts_old succeeded old new ne = absurd (ne refl)
counts_old _ old new ne = refl

module _ (w : World) (z : Shape) (words : List ℕ) (keep : ℕ → View) (core : Core w z words keep) where
  abbrev side : ℕ → Side
  side = core.side

  abbrev rule : Rule w side
  rule = core.rule

  abbrev m : Represents z words keep w side
  m = core.represents

  -- ---- facts are true

  noted_desc : (v : ℕ) → v < z.workers → (x d : Ref) → In (desc_is x d) (keep v).side.facts → w.mark_desc x ≡ d
  noted_desc v mine x d i = (true_note z words keep w side rule m v mine (desc_is x d) tt refl i).1

  noted_cell : (v : ℕ) → v < z.workers → (d : Ref) (e c : ℕ) → In (target_is d e c) (keep v).side.facts → w.target d e ≡ c
  noted_cell v mine d e c i = (true_note z words keep w side rule m v mine (target_is d e c) tt refl i).1

  noted_found : (v : ℕ) → v < z.workers → (x : Ref) (c : ℕ) → In (found x c) (keep v).side.facts → w.target (w.mark_desc x) (w.mark_entry x) ≡ c
  noted_found v mine x c i = (true_note z words keep w side rule m v mine (found x c) tt refl i).1

  -- the old value that is noted for a cell is that of the entry for it
  noted_old : (v : ℕ) → v < z.workers → (d : Ref) (e c word : ℕ) → IsOpened (w.control d) → e < w.size d → w.target d e ≡ c
      → NotesOld (keep v).side d c word → w.old d e ≡ word
  noted_old v mine d e c word opened within here noted =
      let is = noted.1 in
      let work = work_known z words keep w side rule m v mine d noted.0 is.work in
      let same : e ≡ noted.0 = one_entry w side d e noted.0 rule.rows opened within work.1 (here ∙ sym (noted_cell v mine d noted.0 c is.cell)) in
      ap (w.old d) same ∙ (true_note z words keep w side rule m v mine (old_is d noted.0 word) tt refl is.old).1

  -- ---- whether a descriptor succeeded

  worker_of : (d : Ref) → IsOpened (w.control d) → d.worker < z.workers
  worker_of d opened = (m.controls.descs d opened).0

  -- the open descriptor is the newest
  open_newest : (d : Ref) → IsOpened (w.control d) → (side d.worker).current ≡ Some d.number → suc d.number ≡ w.next_number d.worker
  open_newest d opened current = ⊎_elim (λ e. e) (λ ne. absurd (control_stale z words keep w side rule m d.worker (worker_of d opened) d opened ne current))
      (same_nat (suc d.number) (w.next_number d.worker))

  said_succeeded : (d : Ref) → IsOpened (w.control d) → has_succeeded z words d ≡ true → w.control d ≡ succeeded
  said_succeeded d opened is =
      let word : word_at z words (part.Control d.worker) ≡ control_word_of d.number succeeded = eqb-true (word_at z words (part.Control d.worker)) (control_word_of d.number succeeded) is in
      read_as_succeeded (w.control d) (
      sym (reads_desc_control z words keep w side rule m d.worker (worker_of d opened) d (worker_of d opened) (ap serial_in word ∙ serial_said_is d.number succeeded tt))
      ∙ ap read_control word
      ∙ control_said_is d.number succeeded tt)

  newest_succeeded : (d : Ref) → d.worker < z.workers → suc d.number ≡ w.next_number d.worker → w.control d ≡ succeeded → has_succeeded z words d ≡ true
  newest_succeeded d mine newest is =
      eq-eqb (word_at z words (part.Control d.worker)) (control_word_of d.number succeeded)
      ((newest_word z words keep w side rule m d.worker mine d mine newest).0 ∙ ap (control_word_of d.number) is)

  -- of one that stands in a cell the control word always tells it
  standing_succeeded : (c : ℕ) (d : Ref) → w.cell c ≡ desc d → IsOpened (w.control d) → has_succeeded z words d ≡ is_success (w.control d)
  standing_succeeded c d stands opened = same_bool (has_succeeded z words d) (is_success (w.control d))
      (λ e. ap is_success (said_succeeded d opened e))
      (λ e.
      let success = success_yes (w.control d) e in
      newest_succeeded d (worker_of d opened) (open_newest d opened (rule.acts.standing c d stands success).owed.current) success)

  -- a stale one did not succeed, if it stands in a cell
  stale_failed : (c : ℕ) (d : Ref) → w.cell c ≡ desc d → IsOpened (w.control d) → (HasItsRow z words d → ⊥) → w.control d ≢ succeeded
  stale_failed c d stands opened gone success = row_stale z words keep w side rule m d.worker (worker_of d opened) d opened gone (rule.acts.standing c d stands success).owed.current

  -- one that a worker opened succeeded where its control word says so, or where the worker noted it
  module _ (v : ℕ) (mine : v < z.workers) (o : OwnDesc) (i : In o (keep v).opened) where
    abbrev own : Ref
    own = own_ref (keep v) o.number

    abbrev facts : List Fact
    facts = (keep v).side.facts

    own_is : own ≡ record { worker = v; number = o.number }
    own_is t = record { worker = (m.kept v mine).worker t; number = o.number }

    own_opened : IsOpened (w.control own)
    own_opened = subst (λ (x : Ref). IsOpened (w.control x)) (sym own_is) ((m.kept v mine).opened o i).opened

    own_result : (r : Control) → In (decided own r) facts → without_entry (w.control own) ≡ r
    own_result r j = (tells w z words keep core).results v own r mine j

    -- while it is open its control word is its own, and after that it is noted how it was decided
    tells_success : w.control own ≡ succeeded → (has_succeeded z words own || is_noted_success facts own) ≡ true
    tells_success success = ⊎_elim
        (λ current.
        let its : (side own.worker).current ≡ Some own.number =
        ap (λ (u : ℕ). (side u).current) (m.kept v mine).worker ∙ ap (λ (s : Side). s.current) (sym (m.kept v mine).side_is) ∙ current in
        or_left (has_succeeded z words own) (is_noted_success facts own) (newest_succeeded own (worker_of own own_opened) (open_newest own own_opened its) success))
        (λ noted.
        let of_own : In (decided own noted.0) facts = subst (λ (x : Ref). In (decided x noted.0) facts) (sym own_is) noted.1 in
        or_right (has_succeeded z words own) (is_noted_success facts own)
        (in_noted facts own (subst (λ (r : Control). In (decided own r) facts) (sym (own_result noted.0 of_own) ∙ ap without_entry success) of_own)))
        ((m.kept v mine).over o i)

    pub own_success : is_success (w.control own) ≡ (has_succeeded z words own || is_noted_success facts own)
    own_success = same_bool (is_success (w.control own)) (has_succeeded z words own || is_noted_success facts own)
        (λ e. tells_success (success_yes (w.control own) e))
        (λ e. ⊎_elim
        (λ said. ap is_success (said_succeeded own own_opened said))
        (λ noted. ap is_success (read_as_succeeded (w.control own) (own_result succeeded (noted_in facts own noted))))
        (or_cases (has_succeeded z words own) (is_noted_success facts own) e))

  -- ---- a mark

  mark_says : (c : ℕ) (x : Ref) (word : ℕ) → w.cell c ≡ mark x → MarkStandsFor keep c x word → w.old (w.mark_desc x) (w.mark_entry x) ≡ word
  mark_says c x word stands noted =
      let is = rule.rows.marks c x stands in
      let mine = (m.rows.are_marks x is.used).0 in
      let opened = rule.rows.used x is.used in
      noted_old x.worker mine (w.mark_desc x) (w.mark_entry x) c word opened.0 opened.1 is.here
      (subst (λ (d : Ref). NotesOld (keep x.worker).side d c word) (sym (noted_desc x.worker mine x noted.desc noted.names)) noted.old)

  -- ---- a descriptor

  module _ (c : ℕ) (d : Ref) (stands : w.cell c ≡ desc d) (v : ℕ) (one : EntryStandsFor w d c v) where
    opened : IsOpened (w.control d)
    opened = (rule.rows.descs c d stands).opened

    module _ (row : DescRow z words w d) where
      value_is : (e : ℕ) → e < w.size d → value_in z words d e ≡ entry_value (w.control d) (w.old d e) (w.new d e)
      value_is e l = (λ i. cond (standing_succeeded c d stands opened i) (row.news e l i) (row.olds e l i)) ∙ counts_new (w.control d) (w.old d e) (w.new d e)

      -- the entry is met among the first n, and no other is for the cell
      found_entry : (n : ℕ) → n ≤ w.size d → one.entry < n → entry_for z words d c n ≡ v
      found_entry zero most l = absurd (omega arith)
      found_entry (suc n) most l =
          let inside : n < w.size d = omega arith in
          let cell_is : word_at z words (part.EntryCell d.worker n) ≡ w.target d n = row.targets n inside in
          ⊎_elim
          (λ (e : one.entry ≡ n).
          ap (λ t. cond t (value_in z words d n) (entry_for z words d c n)) (eq-eqb (word_at z words (part.EntryCell d.worker n)) c (cell_is ∙ ap (w.target d) (sym e) ∙ one.here))
          ∙ value_is n inside
          ∙ ap (λ (i : ℕ). entry_value (w.control d) (w.old d i) (w.new d i)) (sym e)
          ∙ one.value)
          (λ (ne : one.entry ≢ n).
          ap (λ t. cond t (value_in z words d n) (entry_for z words d c n))
          (ne_eqb (word_at z words (part.EntryCell d.worker n)) c (λ e. ne (one_entry w side d one.entry n rule.rows opened one.within inside (one.here ∙ sym (sym cell_is ∙ e)))))
          ∙ found_entry n (omega arith) (omega arith))
          (same_nat one.entry n)

    row_says : (word : ℕ) → RowStandsFor z words c d word → word ≡ v
    row_says word is =
        let row = m.rows.descs d opened is.row in
        sym is.value ∙ ap (entry_for z words d c) row.length ∙ found_entry row (w.size d) (omega arith) one.within

    stale_says : (word : ℕ) → StaleStandsFor z words keep c d word → word ≡ v
    stale_says word is =
        sym (noted_old is.worker is.within d one.entry c word opened one.within one.here is.old)
        ∙ sym (counts_old (w.control d) (w.old d one.entry) (w.new d one.entry) (stale_failed c d stands opened is.gone))
        ∙ one.value

  -- ---- a cell

  says : (c v word : ℕ) (k : Cell) → w.cell c ≡ k → StandsInWorld w c k v → WordStandsFor z words keep c k word → word ≡ v
  says c v word (plain u) e so is = sym is ∙ so
  says c v word (mark x) e so is = sym (mark_says c x word e is) ∙ so
  says c v word (desc d) e so is = ⊎_elim (row_says c d e v so word) (stale_says c d e v so word) is

  cell_is : (c : ℕ) → c < cell_count z → cell_in (get_or words c 0) ≡ w.cell c
  cell_is c inside = ap cell_in (m.cells.cells c inside) ∙ cell_said_is z (w.cell c) (m.cells.standing c inside)

  pub words_say : (c word : ℕ) → c < cell_count z → IsLogicalWord z words keep c word → word ≡ cells_after w w.act_count c
  words_say c word inside is = says c (cells_after w w.act_count c) word (w.cell c) refl ((tells w z words keep core).order.now c)
      (subst (λ (k : Cell). WordStandsFor z words keep c k word) (cell_is c inside) is)

  -- ---- who holds what stands in a cell

  mark_is_for : (x : Ref) (c : ℕ) → (side x.worker).unsettled ≡ Some x.number → w.target (w.mark_desc x) (w.mark_entry x) ≡ c
      → (x.worker < z.workers) × MarkIsFor (keep x.worker).side x (w.mark_desc x) c
  mark_is_for x c unsettled here =
      let mine = (m.rows.are_marks x (rule.rows.unsettled x unsettled)).0 in (
        mine,
        record {
          unsettled = ap (λ (s : Side). s.unsettled) (m.kept x.worker mine).side_is ∙ unsettled;
          desc = λ f i. sym (noted_desc x.worker mine x f i);
          cell = λ b i. sym (noted_found x.worker mine x b i) ∙ here;
        },
      )

  placer_holds : (d : Ref) (e c : ℕ) → w.target d e ≡ c → ByPlacer w side d e → (v : ℕ) × (v < z.workers) × HoldsCell (keep v).side v d c
  placer_holds d e c here by =
      let x = by.who in
      let is = mark_is_for x c by.unsettled ((λ i. w.target (by.mark_desc i) (by.mark_entry i)) ∙ here) in
      (x.worker, is.0, inr (x.number, subst (λ (f : Ref). MarkIsFor (keep x.worker).side x f c) by.mark_desc is.1))

  debtor_holds : (d : Ref) (c : ℕ) → ByDebt side d c → (v : ℕ) × (v < z.workers) × HoldsCell (keep v).side v d c
  debtor_holds d c by = ⊎_elim
      (λ (mine : by.who < z.workers). (by.who, mine, inl (subst (λ (s : Side). In record { desc = d; cell = c } s.debts) (sym (m.kept by.who mine).side_is) by.debt)))
      (λ past. absurd (subst (λ (s : Side). In record { desc = d; cell = c } s.debts) (m.beyond by.who (omega (arith, past))) by.debt))
      (cases_lt by.who z.workers)

  holder : (c : ℕ) (d : Ref) → w.cell c ≡ desc d → (HasItsRow z words d → ⊥) → (v : ℕ) × (v < z.workers) × HoldsCell (keep v).side v d c
  holder c d stands gone =
      let is = rule.rows.descs c d stands in
      ⊎_elim (λ owner. absurd (row_stale z words keep w side rule m d.worker (worker_of d is.opened) d is.opened gone owner.current))
      (⊎_elim (placer_holds d is.entry c is.here) (debtor_holds d c)) is.owed

  -- ---- where the words lead

  leads : (c : ℕ) (k : Cell) → c < cell_count z → w.cell c ≡ k → IsCell z k → LeadsInside z words keep c k
  leads c (plain u) inside e is = tt
  leads c (mark x) inside e is = let in_cell = rule.rows.marks c x e in record { is_mark = is; desc = w.mark_desc x; is_for = (mark_is_for x c in_cell.owed in_cell.here).1 }
  leads c (desc d) inside e is =
      let opened = (rule.rows.descs c d e).opened in
      record {
        is_desc = is;
        entries = λ has. subst (λ (n : ℕ). n ≤ cell_count z) (sym (m.rows.descs d opened has).length) (m.rows.entries d opened).fits;
        held = holder c d e;
      }

  pub words_lead : (c : ℕ) → c < cell_count z → LeadsInside z words keep c (cell_in (get_or words c 0))
  words_lead c inside = subst (LeadsInside z words keep c) (sym (cell_is c inside)) (leads c (w.cell c) inside refl (m.cells.standing c inside))

  -- ---- each cell stands for a word, where the workers know what they hold

  module _ (knows : (v : ℕ) → v < z.workers → KnowsHeld (keep v).side v) where
    mark_stands : (c : ℕ) (x : Ref) → w.cell c ≡ mark x → (word : ℕ) × MarkStandsFor keep c x word
    mark_stands c x stands =
        let in_cell = rule.rows.marks c x stands in
        let is = mark_is_for x c in_cell.owed in_cell.here in
        let known = (knows x.worker is.0).unsettled x.number is.1.unsettled in (
          known.1.word,
          record {
            desc = known.0;
            names = known.1.names;
            old = subst (λ (b : ℕ). NotesOld (keep x.worker).side known.0 b known.1.word) (is.1.cell known.1.cell known.1.met) known.1.old;
          },
        )

    held_old : (v : ℕ) → v < z.workers → (d : Ref) (c : ℕ) → HoldsCell (keep v).side v d c → (word : ℕ) × NotesOld (keep v).side d c word
    held_old v mine d c holds = ⊎_elim
        (λ debt.
        let known = (knows v mine).debts d c debt in (
          known.2.word,
          subst (λ (b : ℕ). NotesOld (keep v).side d b known.2.word)
              (sym (noted_found v mine known.0 known.2.cell known.2.met) ∙ noted_found v mine known.0 c known.1) known.2.old,
        ))
        (λ (is : (n : ℕ) × MarkIsFor (keep v).side record { worker = v; number = n } d c).
        let known = (knows v mine).unsettled is.0 is.1.unsettled in (
          known.1.word,
          subst (λ (p : Ref × ℕ). NotesOld (keep v).side p.0 p.1 known.1.word)
              (λ i. (is.1.desc known.0 known.1.names i, is.1.cell known.1.cell known.1.met i)) known.1.old,
        ))
        holds

    desc_stands : (c : ℕ) (d : Ref) → w.cell c ≡ desc d → (word : ℕ) × WordStandsFor z words keep c (desc d) word
    desc_stands c d stands = ⊎_elim
        (λ (has : HasItsRow z words d). (entry_for z words d c (word_at z words (part.Length d.worker)), inl record { row = has; value = refl }))
        (λ (gone : HasItsRow z words d → ⊥).
        let by = holder c d stands gone in
        let old = held_old by.0 by.1 d c by.2 in
        (old.0, inr record { gone = gone; worker = by.0; within = by.1; old = old.1 }))
        (same_nat (word_at z words (part.Serial d.worker)) d.number)

    stands_for : (c : ℕ) (k : Cell) → w.cell c ≡ k → (word : ℕ) × WordStandsFor z words keep c k word
    stands_for c (plain u) e = (u, refl)
    stands_for c (mark x) e = mark_stands c x e
    stands_for c (desc d) e = desc_stands c d e

    pub words_tell : (c : ℕ) → c < cell_count z → (word : ℕ) × IsLogicalWord z words keep c word
    words_tell c inside =
        let is = stands_for c (w.cell c) refl in
        (is.0, subst (λ (k : Cell). WordStandsFor z words keep c k is.0) (sym (cell_is c inside)) is.1)

pub words_lead_inside : WordsLeadInside
words_lead_inside w z words keep c core inside = words_lead w z words keep core c inside

pub logical_words : LogicalWords
logical_words w z words keep c word core inside is = words_say w z words keep core c word inside is

pub words_stand : WordsStand
words_stand w z words keep c core inside knows = words_tell w z words keep core knows c inside
