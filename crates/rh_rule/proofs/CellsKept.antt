-- The swaps of cells: Places, Settles and Releases.
use Rattle.std.proofs.Common.{◌≡◌, ◌≢◌, ℕ, eqb, ◌<◌, ◌⊎◌, Bool, true, false, cond, ◌&&◌, List, [], ◌∷◌, length, get_or, set, sym, refl, ap, ◌∙◌, subst, inl, inr, ⊎_elim, eq-eqb, ne_eqb, map, Some, None, Option}
use Rattle.std.proofs.lemmas.List.{set-get_or}
use Rattle.rh_world.specs.World.{Cell, Control, In, IsOpened, IsUsed, Ref, World, updated}
use Rattle.rh_world.specs.World.Cell.{desc, mark}
use Rattle.rh_world.specs.World.Control.{failed, succeeded, undecided, unused, withdrawn}
use Rattle.rh_world.specs.Logical.{entry_value}
use Rattle.rh_world.specs.Facts.{HoldsIn, Fact}
use Rattle.rh_world.specs.Facts.Fact.{decided, desc_is, found, may_demote, may_promote, new_is, old_is, over, stale, size_is, target_is, which_is}
use Rattle.rh_world.specs.Later.{Steady}
use Rattle.rh_world.specs.Sides.{Side, close_side, is_number, paid_side, release_side}
use Rattle.rh_world.specs.Rule.{Rule}
use Rattle.rh_world.specs.Moves.{IsAllowed, KnowsOver, Move, cell_world, covers, is_desc, is_mark, release_noted, released_cell, settle_noted, settled_cell, side_after, world_after}
use Rattle.rh_world.specs.Moves.Move.{releases, settles}
use Rattle.rh_world.proofs.StepLaws.{each_step_keeps}
use Rattle.rh_world.proofs.StepsLater.{steps_later}
use Rattle.rh_world.proofs.Tests.{by_cond, is_desc_yes, is_number_yes}
use Rattle.rh_world.proofs.Updated.{ref_path, same_nat, some_injective, updated_at}
use Rattle.rh_words.specs.declared.shape.Shape.{Shape}
use Rattle.rh_words.specs.declared.shape.Part.{Part}
use Rattle.rh_words.specs.declared.shape.Part.TheVariants as part
use Rattle.rh_words.specs.Parts.{cell_count}
use Rattle.rh_words.specs.View.{OwnDesc, View}
use Rattle.rh_words.specs.Words.{IsPlain, cell_in, desc_number, mark_number, without_entry}
use Rattle.rh_words.specs.Steps.{CanRelease, CanSettle, IsReleased, KnowsValue, MaySettle, Step, is_none, noted, release_view, settle_view, settled_word, size_in, swapped}
use Rattle.rh_rule.specs.Erased.{erased}
use Rattle.rh_rule.specs.Represents.{Cells, IsCell, Kept, cell_number, numbers_of, Represents}
use Rattle.rh_rule.specs.Core.{Core}
use Rattle.rh_rule.proofs.Deciders.{read_as_value}
use Rattle.rh_rule.proofs.Erasing.{erased_either, erased_release, erased_settle}
use Rattle.rh_rule.proofs.Frames.{word_new, word_same}
use Rattle.rh_rule.proofs.Kept.{Grows, Over, Quiet, kept_stays, represents, over_grows, quiet}
use Rattle.rh_rule.proofs.ReadsKept.{grows_none, quiet_none, known_decided, known_note, true_decided, true_note, work_known}
use Rattle.rh_rule.proofs.Said.{cell_said_is, desc_test, mark_test}
use Rattle.rh_rule.proofs.Touched.{controls_same, counter_same, descs_same, marks_same, others_stay, own_same, placed_same, quiet_same, raw_row_same, raw_same, rows_same, set_sized}

module _ (z : Shape) (words : List ℕ) (keep : ℕ → View) (w : World) (side : ℕ → Side) (rule : Rule w side) (m : Represents z words keep w side) (who : ℕ) (mine : who < z.workers) where
  abbrev pub k : View
  k = keep who

  abbrev pub t : Side
  t = side who

  pub h : Kept z words w t who k
  h = m.kept who mine

  abbrev pub found_in : (c : ℕ) → ℕ
  found_in c = get_or words c 0

  -- the word of a cell says what the world has there
  pub cell_found : (c : ℕ) → c < cell_count z → cell_in (found_in c) ≡ w.cell c
  cell_found c here = ap cell_in (m.cells.cells c here) ∙ cell_said_is z (w.cell c) (m.cells.standing c here)

  pub cells_new : (c : ℕ) (n : Cell) (v : World) → c < cell_count z → IsCell z n
      → ((j : ℕ) → v.cell j ≡ updated w.cell c n j) → Cells z (set words c (cell_number n)) v
  cells_new c n v here is same = record {
    cells = λ j there. ⊎_elim
        (λ (p : (j ≡ c) × (updated w.cell c n j ≡ n)).
        ap (λ (x : ℕ). get_or (set words c (cell_number n)) x 0) p.0 ∙ word_new z words (part.Cell c) (cell_number n) here m.sized ∙ ap cell_number (sym (same j ∙ p.1)))
        (λ (p : (j ≢ c) × (updated w.cell c n j ≡ w.cell j)).
        word_same z words (part.Cell c) (cell_number n) here (part.Cell j) there (λ e. p.0 (let q : j ≡ c = cc in q)) ∙ m.cells.cells j there ∙ ap cell_number (sym (same j ∙ p.1)))
        (updated_at w.cell c j n);
    standing = λ j there. subst (λ (x : Cell). IsCell z x) (sym (same j)) (⊎_elim
        (λ (p : (j ≡ c) × (updated w.cell c n j ≡ n)). subst (λ (x : Cell). IsCell z x) (sym p.1) is)
        (λ (p : (j ≢ c) × (updated w.cell c n j ≡ w.cell j)). subst (λ (x : Cell). IsCell z x) (sym p.1) (m.cells.standing j there))
        (updated_at w.cell c j n));
  }

  pub rule_at : (mv : Move) → IsAllowed w side who mv → (v : World) → world_after w who mv ≡ v
      → Rule v (updated side who (side_after w t who mv))
  rule_at mv may v e = subst (λ (y : World). Rule y (updated side who (side_after w t who mv))) e (each_step_keeps w side who mv rule may)

  pub steady_at : (mv : Move) → IsAllowed w side who mv → (v : World) → world_after w who mv ≡ v → Steady w v
  steady_at mv may v e = subst (λ (y : World). Steady w y) e (steps_later w side who mv rule.rows rule.acts may).steady

  -- the swap took place, and a cell alone changes
  cell_step : (mv : Move) → IsAllowed w side who mv → (c : ℕ) (n : Cell) → c < cell_count z → IsCell z n
      → ((i : Ref) → n ≢ mark i) → world_after w who mv ≡ cell_world w c n → (x : Side) → x ≡ erased (side_after w t who mv) → Over who k.opened x → Quiet k.side x
      → Core (world_after w who mv) z (set words c (cell_number n)) (updated keep who (record k { side = x }))
  cell_step mv may c n here is unmarked e x same ends calm =
      let v : World = cell_world w c n in
      let l = steady_at mv may v e in
      let p : Part = part.Cell c in
      subst (λ (y : World). Core y z (set words c (cell_number n)) (updated keep who (record k { side = x }))) (sym e) record {
        side = updated side who (side_after w t who mv);
        rule = rule_at mv may v e;
        represents = represents z words (set words c (cell_number n)) keep w v side m l who mine (side_after w t who mv) (record k { side = x })
            (set_sized z words keep w side m p here (cell_number n) v l)
            (counter_same z words keep w side m p here (cell_number n) v l (λ q. cc) refl)
            (cells_new c n v here is (λ j. refl))
            (controls_same z words keep w side m p here (cell_number n) v l (λ a q. cc) (λ a b q. cc) (λ d. refl) (λ u. refl))
            (rows_same z words keep w side m p here (cell_number n) v l (λ d o. o) (λ y o. o)
            (descs_same z words keep w side m p here (cell_number n) v l (λ o. o)) (marks_same z words keep w side m p here (cell_number n) v l (λ o. o))
            (placed_same z words keep w side m p here (cell_number n) v l (λ o. o)
            (λ j i q. ⊎_elim (λ r. absurd (unmarked i (sym r.1 ∙ q))) (λ r. sym r.1 ∙ q) (updated_at w.cell c j n))))
            (kept_stays z words (set words c (cell_number n)) w v l t (side_after w t who mv) who k x k.control k.raw_rows k.raw refl refl (λ i o. o) (own_same z words keep w side m p here (cell_number n) v l who mine (λ o. o))
            (λ r i. raw_row_same z words keep w side m p here (cell_number n) v l (λ o. o) r (h.raw_rows r i)) (λ r i. raw_same z words keep w side m p here (cell_number n) v l (λ o. o) r (h.raw r i)) same
            (quiet_same z words keep w side m p here (cell_number n) v l who mine (λ o. o) x calm ends (λ d f q. q)) h)
            (others_stay z words keep w side m p here (cell_number n) v l who (λ u ne. refl) (λ u ne. refl) (λ d ne o. o) (λ u ne o. o)
            (descs_same z words keep w side m p here (cell_number n) v l (λ o. o)) (marks_same z words keep w side m p here (cell_number n) v l (λ o. o)) (λ u ne d f q. q));
      }

  -- the swap found another word
  pub still_step : (mv : Move) → IsAllowed w side who mv → (c : ℕ) → world_after w who mv ≡ w → (x : Side)
      → x ≡ erased (side_after w t who mv) → Over who k.opened x → Quiet k.side x
      → Core (world_after w who mv) z (set words c (found_in c)) (updated keep who (record k { side = x }))
  still_step mv may c e x same ends calm = subst (λ (y : World × List ℕ). Core y.0 z y.1 (updated keep who (record k { side = x }))) (λ i. (sym e i, sym (set-get_or words c 0) i)) record {
    side = updated side who (side_after w t who mv);
    rule = rule_at mv may w e;
    represents = represents z words words keep w w side m (steady_at mv may w e) who mine (side_after w t who mv) (record k { side = x })
        m.sized m.counter m.cells m.controls m.rows
        (kept_stays z words words w w (steady_at mv may w e) t (side_after w t who mv) who k x k.control k.raw_rows k.raw refl refl (λ i o. o) (λ q i. refl) h.raw_rows h.raw same
        (quiet z words words w w (steady_at mv may w e) t who k x h calm ends refl (λ d f q. q)) h)
        (λ u lt ne. m.kept u lt);
  }

  -- ---- Settle

  pub grows_cond : (b : Bool) (s r : Side) → Grows k.side s → Grows k.side r → Grows k.side (cond b s r)
  grows_cond true s r g i = g
  grows_cond false s r g i = i

  grows_settle : (d : Ref) (e c : ℕ) (b : Bool) → Grows k.side (settle_noted k.side d e c b)
  grows_settle d e c true = record { current = refl; facts = λ n i. inr i }
  grows_settle d e c false = record { current = refl; facts = λ n i. i }

  settle_side_is : (x : Ref) (c : ℕ) (old : Option ℕ) (word : ℕ) → eqb word (mark_number x) ≡ is_mark (w.cell c) x
      → settle_view k x c (w.mark_desc x) (w.mark_entry x) old word ≡ erased (side_after w t who (settles x c (is_none old)))
  settle_side_is x c old word test =
      let d : Ref = w.mark_desc x in
      let e : ℕ = w.mark_entry x in
      let b : Bool = is_none old && is_mark (w.cell c) x in
      let own : Bool = is_number t.unsettled who x in
      (λ i. cond (is_number (h.side_is i).unsettled (h.worker i) x) (settle_noted (h.side_is i) d e c (is_none old && test i)) (h.side_is i))
      ∙ erased_either own (settle_noted t d e c b) t (settle_noted (erased t) d e c b) (erased t) (erased_settle t d e c b) refl

  settle_over : (x : Ref) (c : ℕ) (d : Ref) (e : ℕ) (old : Option ℕ) (word : ℕ) → Over who k.opened (settle_view k x c d e old word)
  settle_over x c d e old word = over_grows k.side (settle_view k x c d e old word) who k.opened
      (grows_cond (is_number k.side.unsettled k.worker x) (settle_noted k.side d e c (is_none old && eqb word (mark_number x))) k.side (grows_settle d e c (is_none old && eqb word (mark_number x))) (grows_none k.side)) h.over

  settle_quiet : (x : Ref) (c : ℕ) (d : Ref) (e : ℕ) (old : Option ℕ) (word : ℕ) → Quiet k.side (settle_view k x c d e old word)
  settle_quiet x c d e old word = by_cond (λ (s : Side). Quiet k.side s) (is_number k.side.unsettled k.worker x)
      (settle_noted k.side d e c (is_none old && eqb word (mark_number x))) k.side (λ yes. noted (is_none old && eqb word (mark_number x))) (λ not. quiet_none k.side)
    where
      noted : (b : Bool) → Quiet k.side (settle_noted k.side d e c b)
      noted true = record { current = λ n q. q; facts = λ n i. inr i; decided = λ f r i. ⊎_elim (λ q. cc) (λ j. j) i }
      noted false = record { current = λ n q. q; facts = λ n i. i; decided = λ f r i. i }

  settled_word_is : (x : Ref) (old : Option ℕ) → MaySettle k x 0 (w.mark_desc x) (w.mark_entry x) old ⊎ (old ≡ None)
      → settled_word (w.mark_desc x) old ≡ cell_number (settled_cell w x (is_none old))
  settled_word_is x None may = refl
  settled_word_is x (Some o) may = ⊎_elim (λ q. sym (true_note z words keep w side rule m who mine (old_is (w.mark_desc x) (w.mark_entry x) o) tt refl q.1).1) (λ q. cc) may

  may_settle : (x : Ref) (c : ℕ) (old : Option ℕ) → In (found x c) k.side.facts → MaySettle k x c (w.mark_desc x) (w.mark_entry x) old
      → IsAllowed w side who (settles x c (is_none old))
  may_settle x c None f may = (known_note z words keep w side rule m who mine (found x c) tt f, known_note z words keep w side rule m who mine (may_promote x c) tt may)
  may_settle x c (Some o) f may = (known_note z words keep w side rule m who mine (found x c) tt f, known_note z words keep w side rule m who mine (may_demote x) tt may.0)

  settled_is : (x : Ref) (to : Bool) → IsUsed w x → IsCell z (settled_cell w x to)
  settled_is x true u = m.controls.descs (w.mark_desc x) (rule.rows.used x u).0
  settled_is x false u = let q = rule.rows.used x u in (m.rows.entries (w.mark_desc x) q.0).plain_olds (w.mark_entry x) q.1

  settled_unmarked : (x : Ref) (to : Bool) (i : Ref) → settled_cell w x to ≢ mark i
  settled_unmarked x true i e = cc
  settled_unmarked x false i e = cc

  with_word : (x : Ref) (c : ℕ) (old : Option ℕ) → MaySettle k x c (w.mark_desc x) (w.mark_entry x) old
      → MaySettle k x 0 (w.mark_desc x) (w.mark_entry x) old ⊎ (old ≡ None)
  with_word x c None may = inr refl
  with_word x c (Some o) may = inl may

  settle_here : (x : Ref) (c : ℕ) (old : Option ℕ) → CanSettle z k x c (w.mark_desc x) (w.mark_entry x) old
      → Core (world_after w who (settles x c (is_none old))) z (set words c (swapped (mark_number x) (settled_word (w.mark_desc x) old) (found_in c)))
      (updated keep who (record k { side = settle_view k x c (w.mark_desc x) (w.mark_entry x) old (found_in c) }))
  settle_here x c old can =
      let may : IsAllowed w side who (settles x c (is_none old)) = may_settle x c old can.found can.may in
      let used = (true_note z words keep w side rule m who mine (found x c) tt refl can.found).0 in
      let test : eqb (found_in c) (mark_number x) ≡ is_mark (w.cell c) x = ap (λ (n : ℕ). eqb n (mark_number x)) (m.cells.cells c can.cell) ∙ mark_test z (w.cell c) x (m.cells.standing c can.cell) can.mark in
      let s : Side = settle_view k x c (w.mark_desc x) (w.mark_entry x) old (found_in c) in
      let same = settle_side_is x c old (found_in c) test in
      let ends = settle_over x c (w.mark_desc x) (w.mark_entry x) old (found_in c) in
      let calm = settle_quiet x c (w.mark_desc x) (w.mark_entry x) old (found_in c) in
      let n : Cell = settled_cell w x (is_none old) in
      let q : ℕ → Type 0 = λ u. Core (world_after w who (settles x c (is_none old))) z (set words c u) (updated keep who (record k { side = s })) in
      subst (λ (b : Bool). q (cond b (settled_word (w.mark_desc x) old) (found_in c))) (sym test)
      (by_cond q (is_mark (w.cell c) x) (settled_word (w.mark_desc x) old) (found_in c)
      (λ yes. subst q (sym (settled_word_is x old (with_word x c old can.may)))
      (cell_step (settles x c (is_none old)) may c n can.cell (settled_is x (is_none old) used) (settled_unmarked x (is_none old)) (ap (λ (y : Bool). cond y (cell_world w c n) w) yes) s same ends calm))
      (λ not. still_step (settles x c (is_none old)) may c (ap (λ (y : Bool). cond y (cell_world w c n) w) not) s same ends calm))

  pub keeps_settle : (x : Ref) (c : ℕ) (d : Ref) (e : ℕ) (old : Option ℕ) → CanSettle z k x c d e old
      → Core (world_after w who (settles x c (is_none old))) z (set words c (swapped (mark_number x) (settled_word d old) (found_in c))) (updated keep who (noted z k (Step.settles x c d e old) (found_in c)))
  keeps_settle x c d e old can =
      let p : w.mark_desc x ≡ d = (true_note z words keep w side rule m who mine (desc_is x d) tt refl can.desc_is).1 in
      let q : w.mark_entry x ≡ e = (true_note z words keep w side rule m who mine (which_is x e) tt refl can.which_is).1 in
      subst (λ (y : Ref × ℕ). CanSettle z k x c y.0 y.1 old → Core (world_after w who (settles x c (is_none old))) z (set words c (swapped (mark_number x) (settled_word y.0 old) (found_in c))) (updated keep who (noted z k (Step.settles x c y.0 y.1 old) (found_in c))))
      (λ i. (p i, q i)) (settle_here x c old) can

  -- ---- Release

  in_map : (f : OwnDesc → ℕ) (n : ℕ) (os : List OwnDesc) → In n (map f os)
      → (o : OwnDesc) × In o os × (f o ≡ n)
  in_map f n [] i = absurd i
  in_map f n (o ∷ os) i = ⊎_elim (λ e. (o, inl refl, sym e)) (λ r. let q = in_map f n os r in (q.0, inr q.1, q.2)) i

  size_found : (n : ℕ) (os : List OwnDesc) → In n (numbers_of os)
      → (o : OwnDesc) × In o os × (o.number ≡ n) × (size_in os n ≡ length o.entries)
  size_found n [] i = absurd i
  size_found n (o ∷ os) i = ⊎_elim
      (λ (e : n ≡ o.number). (o, inl refl, sym e, ap (λ (b : Bool). cond b (length o.entries) (size_in os n)) (eq-eqb n o.number e)))
      (λ (ne : n ≢ o.number). ⊎_elim (λ e. absurd (ne e))
      (λ r. let q = size_found n os r in (q.0, inr q.1, q.2, ap (λ (b : Bool). cond b (length o.entries) (size_in os n)) (ne_eqb n o.number ne) ∙ q.3)) i)
      (same_nat n o.number)

  -- the size of an own descriptor is kept
  own_size : (d : Ref) → d.worker ≡ who → IsOpened (w.control d) → size_in k.opened d.number ≡ w.size d
  own_size d own o =
      let same : record { worker = who; number = d.number } ≡ d = ref_path record { worker = who; number = d.number } d (sym own) refl in
      let f = size_found d.number k.opened (h.all d.number (subst (λ (x : Ref). IsOpened (w.control x)) (sym same) o)) in
      let is : record { worker = who; number = f.0.number } ≡ d = ref_path record { worker = who; number = f.0.number } d (sym own) f.2 in
      f.3 ∙ sym (h.opened f.0 f.1).size ∙ ap w.size is

  release_side_is : (d : Ref) (e : ℕ) → IsOpened (w.control d)
      → release_view k d e (w.target d e) ≡ erased (side_after w t who (releases d e))
  release_side_is d e o =
      let c : ℕ = w.target d e in
      let mid : (own : Bool) → is_number t.current who d ≡ own → cond own (release_noted (paid_side k.side d c) e (size_in k.opened d.number)) (paid_side k.side d c) ≡ erased (cond own (release_noted (paid_side t d c) e (w.size d)) (paid_side t d c)) = release_mid d e c o in
      (λ i. cond (is_number (h.side_is i).current (h.worker i) d) (release_noted (paid_side k.side d c) e (size_in k.opened d.number)) (paid_side k.side d c)) ∙ mid (is_number t.current who d) refl
    where
      release_mid : (d : Ref) (e c : ℕ) → IsOpened (w.control d) → (own : Bool) → is_number t.current who d ≡ own
          → cond own (release_noted (paid_side k.side d c) e (size_in k.opened d.number)) (paid_side k.side d c) ≡ erased (cond own (release_noted (paid_side t d c) e (w.size d)) (paid_side t d c))
      release_mid d e c o true q =
          let p = is_number_yes t.current who d q in
          (λ i. release_noted (paid_side (h.side_is i) d c) e (own_size d p.0 o i)) ∙ erased_release (paid_side t d c) e (w.size d)
      release_mid d e c o false q = λ i. paid_side (h.side_is i) d c

  -- with its last entry the descriptor is closed, and it is noted as decided
  release_over : (d : Ref) (e c : ℕ) → (k.side.current ≡ Some d.number → d.worker ≡ who → (r : Control) × In (decided d r) k.side.facts) → Over who k.opened (release_view k d e c)
  release_over d e c dec o i = over_release (is_number k.side.current k.worker d) refl
    where
      over_closing : (all : Bool) (s : Side) → s.facts ≡ k.side.facts → s.current ≡ k.side.current → d.worker ≡ who
          → k.side.current ≡ Some d.number
          → ((cond all (close_side s) s).current ≡ Some o.number) ⊎ ((x : Control) × In (decided (record { worker = who; number = o.number }) x) (cond all (close_side s) s).facts)
      over_closing false s facts current own at_work = ⊎_elim (λ q. inl (current ∙ q)) (λ q. inr (q.0, subst (λ (l : List Fact). In (decided (record { worker = who; number = o.number }) q.0) l) (sym facts) q.1)) (h.over o i)
      over_closing true s facts current own at_work = ⊎_elim
          (λ q. let same : d ≡ record { worker = who; number = o.number } = ref_path d record { worker = who; number = o.number } own (some_injective _ _ (sym at_work ∙ q)) in
          let known = dec at_work own in
          inr (known.0, subst (λ (l : List Fact). In (decided (record { worker = who; number = o.number }) known.0) l) (sym facts) (subst (λ (x : Ref). In (decided x known.0) k.side.facts) same known.1)))
          (λ q. inr (q.0, subst (λ (l : List Fact). In (decided (record { worker = who; number = o.number }) q.0) l) (sym facts) q.1)) (h.over o i)

      over_release : (own : Bool) → is_number k.side.current k.worker d ≡ own
          → ((cond own (release_noted (paid_side k.side d c) e (size_in k.opened d.number)) (paid_side k.side d c)).current ≡ Some o.number)
          ⊎ ((x : Control) × In (decided (record { worker = who; number = o.number }) x) (cond own (release_noted (paid_side k.side d c) e (size_in k.opened d.number)) (paid_side k.side d c)).facts)
      over_release true q =
          let p = is_number_yes k.side.current k.worker d q in
          let s : Side = release_side (paid_side k.side d c) e in
          over_closing (covers (size_in k.opened d.number) (e ∷ k.side.released)) s refl refl (p.0 ∙ h.worker) p.1
      over_release false q = ⊎_elim inl inr (h.over o i)

  release_quiet : (d : Ref) (e c : ℕ) → Quiet k.side (release_view k d e c)
  release_quiet d e c = by_cond (λ (s : Side). Quiet k.side s) (is_number k.side.current k.worker d) (release_noted (paid_side k.side d c) e (size_in k.opened d.number)) (paid_side k.side d c)
      (λ yes. by_cond (λ (s : Side). Quiet k.side s) (covers (size_in k.opened d.number) (e ∷ k.side.released)) (close_side (release_side (paid_side k.side d c) e)) (release_side (paid_side k.side d c) e)
      (λ all. record { current = λ n q. cc; facts = λ n i. i; decided = λ f r i. i }) (λ some. record { current = λ n q. q; facts = λ n i. i; decided = λ f r i. i }))
      (λ not. record { current = λ n q. q; facts = λ n i. i; decided = λ f r i. i })

  -- of an open own descriptor it is known how it was decided
  knows_own : (d : Ref) (e : ℕ) (o : Option Control) (value : ℕ) → KnowsValue k d e o value → k.side.current ≡ Some d.number → d.worker ≡ who
      → (r : Control) × In (decided d r) k.side.facts
  knows_own d e (Some r) value may at own = (r, may.0)
  knows_own d e None value may at own = absurd (may.3 (own ∙ sym h.worker) at)

  released_by : (d : Ref) (e : ℕ) (r : Control) (value : ℕ) → without_entry (w.control d) ≡ r → IsReleased k d e r value
      → value ≡ entry_value (w.control d) (w.old d e) (w.new d e)
  released_by d e r value is may =
      value_of r may ∙ ap (λ (x : Control). entry_value x (w.old d e) (w.new d e)) (sym is) ∙ read_as_value (w.control d) (w.old d e) (w.new d e)
    where
      value_of : (r : Control) → IsReleased k d e r value → value ≡ entry_value r (w.old d e) (w.new d e)
      value_of unused q = absurd q
      value_of undecided q = absurd q
      value_of succeeded q = sym (true_note z words keep w side rule m who mine (new_is d e value) tt refl q).1
      value_of withdrawn q = sym (true_note z words keep w side rule m who mine (old_is d e value) tt refl q).1
      value_of (failed f by) q = sym (true_note z words keep w side rule m who mine (old_is d e value) tt refl q).1

  plain_value : (r : Control) (a b : ℕ) → IsPlain a → IsPlain b → IsPlain (entry_value r a b)
  plain_value succeeded a b p q = q
  plain_value _ a b p q = p

  -- how the world has it released, and which value its cell gets
  released_so : (d : Ref) (e : ℕ) (o : Option Control) (value : ℕ) → IsOpened (w.control d) → KnowsValue k d e o value → KnowsOver t d
  released_so d e (Some r) value opened may = let known = known_decided z words keep w side rule m who mine d r may.0 in inl (known.0, known.2)
  released_so d e None value opened may = inr (known_note z words keep w side rule m who mine (over d) tt may.0, known_note z words keep w side rule m who mine (stale d) tt may.1)

  released_word : (d : Ref) (e : ℕ) (o : Option Control) (value : ℕ) → e < w.size d → KnowsValue k d e o value → w.cell (w.target d e) ≡ desc d
      → value ≡ cell_number (released_cell w d e)
  released_word d e (Some r) value lt may here = released_by d e r value (true_decided z words keep w side rule m who mine d r may.0).1 may.1
  released_word d e None value lt may here =
      let passes = rule.acts.facts who (stale d) (known_note z words keep w side rule m who mine (stale d) tt may.1) refl in
      let old : w.old d e ≡ value = (true_note z words keep w side rule m who mine (old_is d e value) tt refl may.2).1 in
      sym old ∙ either (w.control d) refl passes
    where
      either : (c : Control) → w.control d ≡ c → HoldsIn w (stale d) → w.old d e ≡ entry_value (w.control d) (w.old d e) (w.new d e)
      either succeeded q p = absurd (p.1 q (w.target d e) here)
      either _ q p = ap (λ (c : Control). entry_value c (w.old d e) (w.new d e)) (sym q)

  release_here : (d : Ref) (e : ℕ) (o : Option Control) (value : ℕ) → CanRelease z k d e (w.target d e) o value
      → Core (world_after w who (releases d e)) z (set words (w.target d e) (swapped (desc_number d) value (found_in (w.target d e))))
      (updated keep who (record k { side = release_view k d e (w.target d e) }))
  release_here d e o value can =
      let c : ℕ = w.target d e in
      let work = work_known z words keep w side rule m who mine d e can.work in
      let may : IsAllowed w side who (releases d e) = (record { size = can.work.size; known = known_note z words keep w side rule m who mine (size_is d can.work.size) tt can.work.known; within = can.work.within }, released_so d e o value work.0 can.knows_value) in
      let test : eqb (found_in c) (desc_number d) ≡ is_desc (w.cell c) d = ap (λ (n : ℕ). eqb n (desc_number d)) (m.cells.cells c can.cell) ∙ desc_test z (w.cell c) d (m.cells.standing c can.cell) can.desc in
      let s : Side = release_view k d e c in
      let same = release_side_is d e work.0 in
      let ends = release_over d e c (knows_own d e o value can.knows_value) in
      let calm = release_quiet d e c in
      let n : Cell = released_cell w d e in
      let row = m.rows.entries d work.0 in
      let is : IsCell z n = plain_value (w.control d) (w.old d e) (w.new d e) (row.plain_olds e work.1) (row.plain_news e work.1) in
      let q : ℕ → Type 0 = λ u. Core (world_after w who (releases d e)) z (set words c u) (updated keep who (record k { side = s })) in
      subst (λ (b : Bool). q (cond b value (found_in c))) (sym test)
      (by_cond q (is_desc (w.cell c) d) value (found_in c)
      (λ yes. subst q (sym (released_word d e o value work.1 can.knows_value (is_desc_yes (w.cell c) d yes)))
      (cell_step (releases d e) may c n can.cell is (λ i q. cc) (ap (λ (y : Bool). cond y (cell_world w c n) w) yes) s same ends calm))
      (λ not. still_step (releases d e) may c (ap (λ (y : Bool). cond y (cell_world w c n) w) not) s same ends calm))

  pub keeps_release : (d : Ref) (e c : ℕ) (o : Option Control) (value : ℕ) → CanRelease z k d e c o value
      → Core (world_after w who (releases d e)) z (set words c (swapped (desc_number d) value (found_in c))) (updated keep who (noted z k (Step.releases d e c o value) (found_in c)))
  keeps_release d e c o value can =
      let p : w.target d e ≡ c = (true_note z words keep w side rule m who mine (target_is d e c) tt refl can.knows_cell).1 in
      subst (λ (y : ℕ). CanRelease z k d e y o value → Core (world_after w who (releases d e)) z (set words y (swapped (desc_number d) value (found_in y))) (updated keep who (noted z k (Step.releases d e y o value) (found_in y)))) p (release_here d e o value) can
