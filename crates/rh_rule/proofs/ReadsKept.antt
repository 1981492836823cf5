-- A step that changes no word: Reads.
use Rattle.std.proofs.Common.{zero, suc, ◌≡◌, ◌≢◌, ℕ, eqb, ◌<◌, ◌≤◌, ◌⊎◌, Bool, true, false, true≢false, cond, ◌&&◌, ◌||◌, List, [], ◌∷◌, ◌++◌, get_or, sym, refl, ap, ◌∙◌, subst, inl, inr, ⊎_elim, arith, eq-eqb, ne_eqb, Some, None, Option}
use Rattle.rh_world.specs.World.{Cell, Control, In, IsDecided, IsOpened, IsUsed, Ref, World, is_ref, updated}
use Rattle.rh_world.specs.World.Cell.{desc, mark, plain}
use Rattle.rh_world.specs.World.Control.{failed, succeeded, undecided, unused, withdrawn}
use Rattle.rh_world.specs.Facts.{HoldsIn, Fact, part_of}
use Rattle.rh_world.specs.Facts.Fact.{decided, desc_is, failed_at, found, known, may_demote, met, over, stale, size_is, which_is}
use Rattle.rh_world.specs.Facts.RulePart.{of_rows}
use Rattle.rh_world.specs.Sides.{Side, note_side}
use Rattle.rh_world.specs.Rule.{Rule}
use Rattle.rh_world.specs.Moves.{HasSeen, IsRowFact, MayWork, cell_noted, control_noted, mark_noted, note_all, side_after}
use Rattle.rh_world.specs.Moves.Move.{learns, reads_cell, reads_control, reads_mark_control}
use Rattle.rh_world.proofs.Laters.{steady_same}
use Rattle.rh_world.proofs.StepLaws.{each_step_keeps}
use Rattle.rh_world.proofs.Tests.{eqb_not, eqb_yes, is_ref_yes}
use Rattle.rh_world.proofs.Updated.{and_false, ref_path, same_nat, same_ref, updated_at}
use Rattle.rh_words.specs.declared.shape.Shape.{Shape}
use Rattle.rh_words.specs.declared.shape.Part.TheVariants as part
use Rattle.rh_words.specs.declared.reference.Reading.{Reading}
use Rattle.rh_words.specs.declared.reference.Reading.TheVariants as reading
use Rattle.rh_words.specs.View.{MarkWord, Raw, RawRow, RowWord, View}
use Rattle.rh_words.specs.View.RowWord.{length_word, cell_word, old_word, new_word}
use Rattle.rh_words.specs.View.MarkWord.{desc_word, entry_word}
use Rattle.rh_words.specs.Words.{cell_in, desc_in, control_word_of, read_control, ref_of, serial_in, without_entry}
use Rattle.rh_words.specs.Steps.{IsKnown, IsNoted, IsRead, KnowsMark, WasOpened, control_seen, desc_row_said, desc_said, stale_noted, is_known, is_newest, mark_said, index_read, read_noted, read_view, row_said, rows_said, tells_opened}
use Rattle.rh_rule.specs.Erased.{erased}
use Rattle.rh_rule.specs.Represents.{HasItsRow, IsRaw, IsRawRow, IsRowSaid, IsSaid, Kept, MarkStands, word_at, Represents}
use Rattle.rh_rule.specs.Core.{Core}
use Rattle.rh_rule.proofs.Deciders.{read_as_decided, read_as_failed, read_as_number}
use Rattle.rh_rule.proofs.Erasing.{IsWhole, erased_all, erased_cell, erased_control, erased_mark, in_decided, in_whole}
use Rattle.rh_rule.proofs.Kept.{Grows, Meets, Quiet, kept_stays, represents, over_grows, quiet}
use Rattle.rh_rule.proofs.Said.{HasState, cell_said_is, control_said_is, desc_said_is, serial_said_is}

-- ---- Sides that grow

pub grows_none : (s : Side) → Grows s s
grows_none s = record { current = refl; facts = λ n i. i }

pub grows_note : (s : Side) (n : Fact) → Grows s (note_side s n)
grows_note s n = record { current = refl; facts = λ m i. inr i }

pub grows_then : (s t r : Side) → Grows s t → Grows t r → Grows s r
grows_then s t r g h = record { current = h.current ∙ g.current; facts = λ n i. h.facts n (g.facts n i) }

grows_cell : (s : Side) (c : ℕ) (k : Cell) (q : Option ℕ) (acts next : ℕ) → Grows s (cell_noted s c k q acts next)
grows_cell s c (plain u) None acts next = record { current = refl; facts = λ n i. i }
grows_cell s c (plain u) (Some p) acts next = grows_none s
grows_cell s c (mark x) q acts next = grows_note s (found x c)
grows_cell s c (desc d) q acts next = grows_note s (met d)

pub grows_control : (s : Side) (d : Ref) (k : Control) → Grows s (control_noted s d k)
grows_control s d unused = grows_none s
grows_control s d undecided = record { current = refl; facts = λ n i. inr i }
grows_control s d succeeded = grows_note s (decided d succeeded)
grows_control s d withdrawn = grows_note s (decided d withdrawn)
grows_control s d (failed e by) = grows_note s (decided d (failed e by))

grows_mark : (s : Side) (x : Ref) (c : ℕ) (k : Control) → Grows s (mark_noted s x c k)
grows_mark s x c unused = grows_none s
grows_mark s x c undecided = grows_note s (Fact.may_promote x c)
grows_mark s x c _ = grows_note s (Fact.may_demote x)

-- what is noted of a control is how it is decided
pub in_control : (s : Side) (d : Ref) (c : Control) (f : Ref) (r : Control) → In (decided f r) (control_noted s d c).facts
    → ((f ≡ d) × (r ≡ c)) ⊎ In (decided f r) s.facts
in_control s d unused f r i = inr i
in_control s d undecided f r i = ⊎_elim (λ e. cc) inr i
in_control s d succeeded f r i = ⊎_elim (λ (e : decided f r ≡ decided d succeeded). inl ((let a : f ≡ d = cc in a), (let b : r ≡ succeeded = cc in b))) inr i
in_control s d withdrawn f r i = ⊎_elim (λ (e : decided f r ≡ decided d withdrawn). inl ((let a : f ≡ d = cc in a), (let b : r ≡ withdrawn = cc in b))) inr i
in_control s d (failed n by) f r i = ⊎_elim (λ (e : decided f r ≡ decided d (failed n by)). inl ((let a : f ≡ d = cc in a), (let b : r ≡ failed n by = cc in b))) inr i

in_mark : (s : Side) (x : Ref) (c : ℕ) (k : Control) (f : Ref) (r : Control) → In (decided f r) (mark_noted s x c k).facts → In (decided f r) s.facts
in_mark s x c unused f r i = i
in_mark s x c _ f r i = ⊎_elim (λ e. cc) (λ j. j) i

-- d is known where a fact tells that it was opened
tells_yes : (n : Fact) (d : Ref) → tells_opened n d ≡ true → ((n ≡ known d) ⊎ ((k : Control) × (n ≡ decided d k))) ⊎ (n ≡ met d)
tells_yes (met f) d e = inr (ap met (is_ref_yes f d e))
tells_yes (known f) d e = inl (inl (ap known (is_ref_yes f d e)))
tells_yes (decided f k) d e = inl (inr (k, ap (λ (x : Ref). decided x k) (is_ref_yes f d e)))
tells_yes _ d e = absurd (true≢false (sym e))

known_yes : (ns : List Fact) (d : Ref) → is_known ns d ≡ true → IsKnown ns d
known_yes [] d e = absurd (true≢false (sym e))
known_yes (n ∷ ns) d e = ⊎_elim
    (λ (q : tells_opened n d ≡ true). ⊎_elim (⊎_elim (λ r. inl (inl (inl (sym r)))) (λ r. inl (inr (r.0, inl (sym r.1))))) (λ r. inr (inl (sym r))) (tells_yes n d q))
    (λ (q : is_known ns d ≡ true). ⊎_elim (⊎_elim (λ i. inl (inl (inr i))) (λ i. inl (inr (i.0, inr i.1)))) (λ i. inr (inr i)) (known_yes ns d q))
    (or_yes (tells_opened n d) (is_known ns d) e)
  where
    or_yes : (a b : Bool) → (a || b) ≡ true → (a ≡ true) ⊎ (b ≡ true)
    or_yes true b e = inl refl
    or_yes false b e = inr e

and_true : {a b : Bool} → a ≡ true → b ≡ true → (a && b) ≡ true
and_true {a} {b} p q = (λ i. p i && q i)

pub unused_or : (k : Control) → (IsOpened k → ⊥) → k ≡ unused
unused_or unused h = refl
unused_or _ h = absurd (h (λ q. cc))

-- ---- Sides that note no control

pub quiet_none : (s : Side) → Quiet s s
quiet_none s = record { current = λ n e. e; facts = λ n i. i; decided = λ d r i. i }

quiet_cell : (s : Side) (c : ℕ) (k : Cell) (q : Option ℕ) (acts next : ℕ) → Quiet s (cell_noted s c k q acts next)
quiet_cell s c (plain u) None acts next = record { current = λ n e. e; facts = λ n i. i; decided = λ d r i. i }
quiet_cell s c (plain u) (Some p) acts next = quiet_none s
quiet_cell s c (mark x) q acts next = record { current = λ n e. e; facts = λ n i. inr i; decided = λ d r i. ⊎_elim (λ e. cc) (λ j. j) i }
quiet_cell s c (desc f) q acts next = record { current = λ n e. e; facts = λ n i. inr i; decided = λ d r i. ⊎_elim (λ e. cc) (λ j. j) i }

not_row : (n : Fact) → IsRowFact n → (d : Ref) (r : Control) → decided d r ≡ n → ⊥
not_row n row d r e = subst IsRowFact (sym e) row

quiet_all : (s : Side) (ns : List Fact) → ((n : Fact) → In n ns → IsRowFact n) → Quiet s (note_all s ns)
quiet_all s [] h = quiet_none s
quiet_all s (n ∷ ns) h = let q = quiet_all s ns (λ m i. h m (inr i)) in record {
  current = q.current;
  facts = λ m i. inr (q.facts m i);
  decided = λ d r i. ⊎_elim (λ e. absurd (not_row n (h n (inl refl)) d r e)) (λ j. q.decided d r j) i;
}

grows_all : (s : Side) (ns : List Fact) → Grows s (note_all s ns)
grows_all s [] = grows_none s
grows_all s (n ∷ ns) = grows_then s (note_all s ns) (note_all s (n ∷ ns)) (grows_all s ns) (grows_note (note_all s ns) n)

in_append : (n : Fact) (l r : List Fact) → In n (l ++ r) → In n l ⊎ In n r
in_append n [] r i = inr i
in_append n (m ∷ l) r i = ⊎_elim (λ e. inl (inl e)) (λ j. ⊎_elim (λ o. inl (inr o)) inr (in_append n l r j)) i

-- ---- the steps

module _ (z : Shape) (words : List ℕ) (keep : ℕ → View) (w : World) (side : ℕ → Side) (rule : Rule w side) (m : Represents z words keep w side) (who : ℕ) (mine : who < z.workers) where
  abbrev pub k : View
  k = keep who

  abbrev pub t : Side
  t = side who

  pub h : Kept z words w t who k
  h = m.kept who mine

  -- a fact that is kept is one of the Side, and true
  pub known_note : (n : Fact) → IsWhole n → In n k.side.facts → In n t.facts
  known_note n whole i = in_whole n t whole (subst (λ (s : Side). In n s.facts) h.side_is i)

  pub true_note : (n : Fact) → IsWhole n → part_of n ≡ of_rows → In n k.side.facts → HoldsIn w n
  true_note n whole of i = rule.rows.facts who n (known_note n whole i) of

  -- of a decision all is kept but who made it
  pub known_decided : (d : Ref) (r : Control) → In (decided d r) k.side.facts → (j : Control) × (without_entry j ≡ r) × In (decided d j) t.facts
  known_decided d r i = in_decided d r t (subst (λ (s : Side). In (decided d r) s.facts) h.side_is i)

  pub true_decided : (d : Ref) (r : Control) → In (decided d r) k.side.facts → IsDecided r × (without_entry (w.control d) ≡ r)
  true_decided d r i =
      let j = known_decided d r i in
      let holds = rule.rows.facts who (decided d j.0) j.2 refl in
      (subst IsDecided j.1 (read_as_decided j.0 holds.0), ap without_entry holds.1 ∙ j.1)

  pub opened_known : (d : Ref) → IsKnown k.side.facts d → IsOpened (w.control d)
  opened_known d o = ⊎_elim
      (⊎_elim (λ i. true_note (known d) tt refl i) (λ i. let q = true_decided d i.0 i.1 in λ e. subst IsDecided (sym q.1 ∙ ap without_entry e) q.0))
      (λ i. true_note (met d) tt refl i) o

  pub seen_known : (d : Ref) → HasSeen k.side.facts d → HasSeen t.facts d
  seen_known d o = ⊎_elim (λ i. inl (known_note (known d) tt i)) (λ i. let j = known_decided d i.0 i.1 in inr (j.0, j.2)) o

  pub work_known : (d : Ref) (e : ℕ) → MayWork k.side d e → IsOpened (w.control d) × (e < w.size d)
  work_known d e may = let q = true_note (size_is d may.size) tt refl may.known in (q.0, subst (λ (n : ℕ). e < n) (sym q.1) may.within)

  pub mark_known : (d : Ref) (e : ℕ) → KnowsMark k.side.facts d e → IsOpened (w.control d) × (e < w.size d)
  mark_known d e may =
      let x : Ref = may.0 in
      let is = true_note (desc_is x d) tt refl may.1 in
      let at = true_note (which_is x e) tt refl may.2 in
      subst (λ (y : Ref × ℕ). IsOpened (w.control y.0) × (y.1 < w.size y.0)) (λ i. (is.1 i, at.1 i)) (rule.rows.used x is.0)

  pub rule_none : Rule w (updated side who t)
  rule_none =
      let same : (u : ℕ) → side u ≡ updated side who t u = λ u. ⊎_elim (λ p. ap side p.0 ∙ sym p.1) (λ p. sym p.1) (updated_at side who u t) in
      subst (λ (f : ℕ → Side). Rule w f) (λ i u. same u i) rule

  -- the words stay, and a Side grows, or what was read in rows
  side_keeps : (s x : Side) (c : ℕ) (rows : List RawRow) (rs : List Raw) → Rule w (updated side who s) → x ≡ erased s → Meets z words w who k x c
      → ((r : RawRow) → In r rows → IsRawRow z words w r) → ((r : Raw) → In r rs → IsRaw z words w r)
      → Core w z words (updated keep who (record k { side = x; control = c; raw_rows = rows; raw = rs }))
  side_keeps s x c rows rs r is meets raw_rows raw = record {
    side = updated side who s;
    rule = r;
    represents = represents z words words keep w w side m (steady_same w) who mine s (record k { side = x; control = c; raw_rows = rows; raw = rs })
        m.sized m.counter m.cells m.controls m.rows
        (kept_stays z words words w w (steady_same w) t s who k x c rows rs refl refl (λ n o. o) (λ q i. refl) raw_rows raw is meets h)
        (λ u lt ne. m.kept u lt);
  }

  meets_quiet : (x : Side) → Quiet k.side x → Grows k.side x → Meets z words w who k x k.control
  meets_quiet x q g = quiet z words words w w (steady_same w) t who k x h q (over_grows k.side x who k.opened g h.over) refl (λ d e f. f)

  side_grows : (s x : Side) → Rule w (updated side who s) → x ≡ erased s → Quiet k.side x → Grows k.side x
      → Core w z words (updated keep who (record k { side = x }))
  side_grows s x r is q grows = side_keeps s x k.control k.raw_rows k.raw r is (meets_quiet x q grows) h.raw_rows h.raw

  still : Core w z words (updated keep who k)
  still = side_grows t k.side rule_none h.side_is (quiet_none k.side) (grows_none k.side)

  -- what rows say is learned, where the own control is as it was last seen
  learn_seen : (ns : List Fact) → ((n : Fact) → In n ns → IsRowFact n × HoldsIn w n) → (c : ℕ) → c ≡ k.control
      → Core w z words (updated keep who (record k { side = note_all k.side ns; control = c }))
  learn_seen ns may c same = side_keeps (note_all t ns) (note_all k.side ns) c k.raw_rows k.raw (each_step_keeps w side who (learns ns) rule may)
      ((λ i. note_all (h.side_is i) ns) ∙ erased_all t ns (λ n i. (may n i).0))
      (subst (λ (i : ℕ). Meets z words w who k (note_all k.side ns) i) (sym same) (meets_quiet (note_all k.side ns) (quiet_all k.side ns (λ n i. (may n i).0)) (grows_all k.side ns)))
      h.raw_rows h.raw

  learn_all : (ns : List Fact) → ((n : Fact) → In n ns → IsRowFact n × HoldsIn w n)
      → Core w z words (updated keep who (record k { side = note_all k.side ns }))
  learn_all ns may = learn_seen ns may k.control refl

  learn : (n : Fact) → IsRowFact n × HoldsIn w n → Core w z words (updated keep who (record k { side = note_side k.side n }))
  learn n may = learn_all (n ∷ []) (λ o i. ⊎_elim (λ (q : o ≡ n). subst (λ (p : Fact). IsRowFact p × HoldsIn w p) (sym q) may) (λ j. absurd j) i)

  -- nothing is learned yet
  keep_raw : (r : Raw) → IsRaw z words w r → Core w z words (updated keep who (record k { raw = r ∷ k.raw }))
  keep_raw r is = side_keeps t k.side k.control k.raw_rows (r ∷ k.raw) rule_none h.side_is (meets_quiet k.side (quiet_none k.side) (grows_none k.side)) h.raw_rows
      (λ q i. ⊎_elim (λ (e : q ≡ r). subst (λ (x : Raw). IsRaw z words w x) (sym e) is) (h.raw q) i)

  keep_raw_row : (r : RawRow) → IsRawRow z words w r → Core w z words (updated keep who (record k { raw_rows = r ∷ k.raw_rows }))
  keep_raw_row r is = side_keeps t k.side k.control (r ∷ k.raw_rows) k.raw rule_none h.side_is (meets_quiet k.side (quiet_none k.side) (grows_none k.side))
      (λ q i. ⊎_elim (λ (e : q ≡ r). subst (λ (x : RawRow). IsRawRow z words w x) (sym e) is) (h.raw_rows q) i) h.raw

  -- ---- what is stale

  -- a descriptor that is not open is decided, and stands in no cell if it succeeded
  gone : (d : Ref) → IsOpened (w.control d) → ((side d.worker).current ≡ Some d.number → ⊥) → HoldsIn w (over d) × HoldsIn w (stale d)
  gone d o closed =
      let dec = ⊎_elim (λ (q : IsDecided (w.control d)). q) (λ q. absurd (closed q)) (rule.rows.state d o) in
      (dec, (dec, λ s c e. closed (rule.acts.standing c d e s).owed.current))

  -- one whose row has another number is not open
  pub row_stale : (d : Ref) → IsOpened (w.control d) → word_at z words (part.Serial d.worker) ≢ d.number → (side d.worker).current ≡ Some d.number → ⊥
  row_stale d o ne c =
      let u = (m.controls.descs d o).0 in
      ne ((m.kept d.worker u).open_row d.number (ap (λ (s : Side). s.current) (m.kept d.worker u).side_is ∙ c))

  -- the newest descriptor of a worker that opened one
  newest_of : (d : Ref) → IsOpened (w.control d) → (n : ℕ) × (suc n ≡ w.next_number d.worker)
  newest_of d o = above (w.next_number d.worker) (rule.rows.below d o)
    where
      above : (k : ℕ) → d.number < k → (n : ℕ) × (suc n ≡ k)
      above zero lt = absurd (omega arith)
      above (suc n) lt = (n, refl)

  -- one with another control is not open, as the open one is the newest
  pub control_stale : (d : Ref) → IsOpened (w.control d) → (suc d.number ≡ w.next_number d.worker → ⊥) → (side d.worker).current ≡ Some d.number → ⊥
  control_stale d o older c =
      let n = newest_of d o in
      let f : Ref = record { worker = d.worker; number = n.0 } in
      let u = (m.controls.descs d o).0 in
      let last : n.0 ≤ d.number = rule.rows.last d f c refl (m.controls.newest f u n.1).0 in
      let below : d.number < w.next_number d.worker = rule.rows.below d o in
      let is : suc n.0 ≡ w.next_number d.worker = n.1 in
      older (omega arith)

  both_stale : (d : Ref) → HoldsIn w (over d) × HoldsIn w (stale d) → (n : Fact) → In n (stale d ∷ over d ∷ []) → IsRowFact n × HoldsIn w n
  both_stale d g n i = ⊎_elim (λ (e : n ≡ stale d). subst (λ (o : Fact). IsRowFact o × HoldsIn w o) (sym e) (tt, g.1))
      (λ j. ⊎_elim (λ (e : n ≡ over d). subst (λ (o : Fact). IsRowFact o × HoldsIn w o) (sym e) (tt, g.0)) (λ q. absurd q) j) i

  -- ---- controls

  -- each is the number of one
  pub state_of_control : (d : Ref) → IsOpened (w.control d) → HasState (w.control d)
  state_of_control d o = either (w.control d) refl
    where
      either : (c : Control) → w.control d ≡ c → HasState c
      either (failed f by) e = let few : z.workers ≤ 16 = z.workers_fit in let lt : by < z.workers = m.controls.deciders d f by e in (let q : by < 64 = omega arith in q)
      either _ e = tt

  -- the control word of a worker that opened one
  pub newest_word : (d : Ref) → d.worker < z.workers → suc d.number ≡ w.next_number d.worker
      → (word_at z words (part.Control d.worker) ≡ control_word_of d.number (w.control d)) × HasState (w.control d)
  newest_word d u is = let q = m.controls.newest d u is in (q.1, state_of_control d q.0)

  -- with the number of d it tells of d; with another, d is not the newest
  pub control_word : (d : Ref) → d.worker < z.workers → serial_in (word_at z words (part.Control d.worker)) ≡ d.number → IsOpened (w.control d)
      → suc d.number ≡ w.next_number d.worker
  control_word d u is o =
      let n = newest_of d o in
      let f : Ref = record { worker = d.worker; number = n.0 } in
      let q = newest_word f u n.1 in
      let same : n.0 ≡ d.number = sym (serial_said_is n.0 (w.control f) q.1) ∙ ap serial_in (sym q.0) ∙ is in
      subst (λ (i : ℕ). suc i ≡ w.next_number d.worker) same n.1

  -- while the row of a mark stands, all that was read in it is true
  module _ (x : Ref) (used : IsUsed w x) (stands : MarkStands z words x) where
    true_word : (u : MarkWord) → IsSaid w x u → (n : Fact) → In n (mark_said x u) → IsRowFact n × HoldsIn w n
    true_word (desc_word u) said n i =
        let d : Ref = w.mark_desc x in
        let names : desc_in u ≡ Some d = ap desc_in said ∙ desc_said_is z d (m.controls.descs d (rule.rows.used x used).0) in
        one (subst (λ (o : Option Ref). In n (desc_said x o)) names i)
      where
        one : In n (desc_is x (w.mark_desc x) ∷ []) → IsRowFact n × HoldsIn w n
        one i = ⊎_elim (λ (e : n ≡ desc_is x (w.mark_desc x)). subst (λ (o : Fact). IsRowFact o × HoldsIn w o) (sym e) (tt, (used, refl))) (λ j. absurd j) i
    true_word (entry_word u) said n i = ⊎_elim (λ (e : n ≡ which_is x u). subst (λ (o : Fact). IsRowFact o × HoldsIn w o) (sym e) (tt, (used, sym said))) (λ j. absurd j) i

    true_words : (rs : List Raw) → ((r : Raw) → In r rs → In r k.raw) → (n : Fact) → In n (row_said rs x) → IsRowFact n × HoldsIn w n
    true_words [] sub n i = absurd i
    true_words (r ∷ rs) sub n i = either (true_words rs (λ q j. sub q (inr j)) n) (is_ref r.mark x) refl i
      where
        either : (In n (row_said rs x) → IsRowFact n × HoldsIn w n) → (b : Bool) → is_ref r.mark x ≡ b
            → In n (cond b (mark_said x r.word ++ row_said rs x) (row_said rs x)) → IsRowFact n × HoldsIn w n
        either others true e i =
            let same : r.mark ≡ x = is_ref_yes r.mark x e in
            let raw = h.raw r (sub r (inl refl)) in
            let said : IsSaid w x r.word = subst (λ (y : Ref). MarkStands z words y → IsSaid w y r.word) same raw.said stands in
            ⊎_elim (true_word r.word said n) others (in_append n (mark_said x r.word) (row_said rs x) i)
        either others false e i = others i

  control_zero : (d : Ref) → w.next_number d.worker ≡ 0 → w.control d ≡ unused
  control_zero d none = unused_or (w.control d) (λ o. let lt : d.number < w.next_number d.worker = rule.rows.below d o in absurd (omega arith))

  -- a control word with the number of d says how d is, opened or not
  pub reads_desc_control : (d : Ref) → d.worker < z.workers → serial_in (word_at z words (part.Control d.worker)) ≡ d.number
      → read_control (word_at z words (part.Control d.worker)) ≡ without_entry (w.control d)
  reads_desc_control d u is = either (w.next_number d.worker) refl
    where
      either : (n : ℕ) → w.next_number d.worker ≡ n → read_control (word_at z words (part.Control d.worker)) ≡ without_entry (w.control d)
      either zero none = ap read_control (m.controls.unopened d.worker u none) ∙ ap without_entry (sym (control_zero d none))
      either (suc n) some =
          let f : Ref = record { worker = d.worker; number = n } in
          let q = newest_word f u (sym some) in
          let same : f ≡ d = ref_path f d refl (sym (serial_said_is n (w.control f) q.1) ∙ ap serial_in (sym q.0) ∙ is) in
          ap read_control q.0 ∙ control_said_is n (w.control f) q.1 ∙ ap (λ (x : Ref). without_entry (w.control x)) same

  -- what the own control word is taken for, once that of d was seen to say r
  pub meets_seen : (then : List ℕ) (v : World) → word_at z then (part.Serial who) ≡ word_at z words (part.Serial who) → (d : Ref) (now : Control) (x : Side)
      → ((e : Ref) (r : Control) → In (decided e r) x.facts → ((e ≡ d) × (r ≡ now)) ⊎ In (decided e r) k.side.facts)
      → ((r : Control) → In (decided d r) k.side.facts → r ≡ now) → Grows k.side x → (seen : ℕ)
      → (suc d.number ≡ w.next_number d.worker → seen ≡ control_word_of d.number now)
      → ((f : Ref) (e : ℕ) → v.control f ≡ failed e who → In (decided f (failed 0 who)) x.facts) → Meets z then v who k x (control_seen k d seen)
  meets_seen then v serial d now x facts before g seen seen_is fails = record {
    over = over_grows k.side x who k.opened g h.over;
    no_control = λ e. ap (λ (b : Bool). cond b seen k.control) (not_newest (λ q. let bad : suc d.number ≡ 0 = q ∙ e in absurd (omega (arith, bad)))) ∙ h.no_control e;
    control = λ n r next i. ⊎_elim
        (λ (e : record { worker = who; number = n } ≡ d).
        let own : d.worker ≡ k.worker = ap (λ (y : Ref). y.worker) (sym e) ∙ sym h.worker in
        let newest : suc d.number ≡ k.next_number = ap (λ (y : Ref). suc y.number) (sym e) ∙ next in
        let reads_as : r ≡ now = ⊎_elim (λ q. q.1) (λ j. before r (subst (λ (y : Ref). In (decided y r) k.side.facts) e j)) (facts record { worker = who; number = n } r i) in
        ap (λ (b : Bool). cond b seen k.control) (and_true (eq-eqb d.worker k.worker own) (eq-eqb (suc d.number) k.next_number newest))
        ∙ seen_is (newest ∙ h.next_number ∙ ap w.next_number (ap (λ (y : Ref). y.worker) e)) ∙ ap (λ (c : Control). control_word_of d.number c) (sym reads_as) ∙ ap (λ (y : Ref). control_word_of y.number r) (sym e))
        (λ (ne : record { worker = who; number = n } ≢ d).
        ap (λ (b : Bool). cond b seen k.control) (other_newest n next ne)
        ∙ h.control n r next (⊎_elim (λ q. absurd (ne q.0)) (λ j. j) (facts record { worker = who; number = n } r i)))
        (same_ref record { worker = who; number = n } d);
    open_row = λ n c. serial ∙ h.open_row n (sym g.current ∙ c);
    failures = fails;
  }
    where
      not_newest : (suc d.number ≡ k.next_number → ⊥) → is_newest k d ≡ false
      not_newest ne = ap (λ (b : Bool). eqb d.worker k.worker && b) (ne_eqb (suc d.number) k.next_number ne) ∙ and_false (eqb d.worker k.worker)

      other_newest : (n : ℕ) → suc n ≡ k.next_number → record { worker = who; number = n } ≢ d → is_newest k d ≡ false
      other_newest n next ne = ⊎_elim
          (λ (own : d.worker ≡ k.worker). not_newest (λ q. ne (ref_path record { worker = who; number = n } d (sym (own ∙ h.worker)) (let a : suc d.number ≡ suc n = q ∙ sym next in omega (arith, a)))))
          (λ (other : d.worker ≢ k.worker). ap (λ (b : Bool). b && eqb (suc d.number) k.next_number) (ne_eqb d.worker k.worker other))
          (same_nat d.worker k.worker)

  pub meets_control : (d : Ref) → d.worker < z.workers → serial_in (word_at z words (part.Control d.worker)) ≡ d.number → (x : Side)
      → ((e : Ref) (r : Control) → In (decided e r) x.facts → ((e ≡ d) × (r ≡ without_entry (w.control d))) ⊎ In (decided e r) k.side.facts)
      → Grows k.side x → (seen : ℕ) → seen ≡ word_at z words (part.Control d.worker) → Meets z words w who k x (control_seen k d seen)
  meets_control d u is x facts g seen seen_is = meets_seen words w refl d (without_entry (w.control d)) x facts (λ r j. sym (true_decided d r j).1) g seen
      (λ next. seen_is ∙ (m.controls.newest d u next).1 ∙ sym (read_as_number d.number (w.control d)))
      (λ f e q. g.facts (decided f (failed 0 who)) (h.failures f e q))

  -- where it has another number, d is stale, and the own one is as it was last seen
  seen_other : (d : Ref) → d.worker < z.workers → serial_in (word_at z words (part.Control d.worker)) ≢ d.number → (seen : ℕ) → control_seen k d seen ≡ k.control
  seen_other d u ne seen = ap (λ (b : Bool). cond b seen k.control) (⊎_elim
      (λ (own : d.worker ≡ k.worker). ap (λ (b : Bool). eqb d.worker k.worker && b) (ne_eqb (suc d.number) k.next_number
      (λ q.
      let newest : suc d.number ≡ w.next_number d.worker = q ∙ h.next_number ∙ ap w.next_number (sym (own ∙ h.worker)) in
      let word = newest_word d u newest in
      ne (ap serial_in word.0 ∙ serial_said_is d.number (w.control d) word.1))) ∙ and_false (eqb d.worker k.worker))
      (λ (other : d.worker ≢ k.worker). ap (λ (b : Bool). b && eqb (suc d.number) k.next_number) (ne_eqb d.worker k.worker other))
      (same_nat d.worker k.worker))

  pub older_stale : (d : Ref) → IsOpened (w.control d) → serial_in (word_at z words (part.Control d.worker)) ≢ d.number → HoldsIn w (over d) × HoldsIn w (stale d)
  older_stale d o ne = gone d o (control_stale d o (λ q.
      let word = newest_word d (m.controls.descs d o).0 q in
      ne (ap serial_in word.0 ∙ serial_said_is d.number (w.control d) word.1)))

  -- while the row of d is its own, all that was read in it is true
  true_row : (d : Ref) → IsOpened (w.control d) → (u : RowWord) → IsRowSaid w d u → IsRowFact (desc_row_said d u) × HoldsIn w (desc_row_said d u)
  true_row d o (length_word n) s = (tt, (o, sym s))
  true_row d o _ s = (tt, (o, sym s))

  true_rows : (d : Ref) → IsOpened (w.control d) → HasItsRow z words d → (rs : List RawRow) → ((r : RawRow) → In r rs → In r k.raw_rows)
      → (n : Fact) → In n (rows_said rs d) → IsRowFact n × HoldsIn w n
  true_rows d o has [] sub n i = absurd i
  true_rows d o has (r ∷ rs) sub n i = either (true_rows d o has rs (λ q j. sub q (inr j)) n) (is_ref r.desc d) refl i
    where
      either : (In n (rows_said rs d) → IsRowFact n × HoldsIn w n) → (b : Bool) → is_ref r.desc d ≡ b
          → In n (cond b (desc_row_said d r.word ∷ rows_said rs d) (rows_said rs d)) → IsRowFact n × HoldsIn w n
      either others true e i =
          let same : r.desc ≡ d = is_ref_yes r.desc d e in
          let raw = h.raw_rows r (sub r (inl refl)) in
          let said : IsRowSaid w d r.word = subst (λ (y : Ref). HasItsRow z words y → IsRowSaid w y r.word) same raw.said has in
          ⊎_elim (λ (q : n ≡ desc_row_said d r.word). subst (λ (x : Fact). IsRowFact x × HoldsIn w x) (sym q) (true_row d o r.word said)) others i
      either others false e i = others i

  was_opened : (d : Ref) → WasOpened k.side.facts d → IsOpened (w.control d)
  was_opened d o = ⊎_elim (opened_known d) (λ i. let is = true_note (desc_is i.0 d) tt refl i.1 in subst (λ (y : Ref). IsOpened (w.control y)) is.1 (rule.rows.used i.0 is.0).0) o

  pub keeps_read : (r : Reading) → IsRead z r → IsNoted k r → (word : ℕ) → word ≡ get_or words (index_read z r) 0
      → Core w z words (updated keep who (read_view k r word))
  keeps_read (reading.Word p) here may word is = still
  keeps_read (reading.Cell c) here may word is =
      let said : cell_in word ≡ w.cell c = ap cell_in (is ∙ m.cells.cells c here) ∙ cell_said_is z (w.cell c) (m.cells.standing c here) in
      side_grows (side_after w t who (reads_cell c)) (read_noted k (reading.Cell c) word) (each_step_keeps w side who (reads_cell c) rule tt)
      ((λ i. cell_noted (h.side_is i) c (said i) (h.side_is i).current 0 (h.next_number i)) ∙ erased_cell t c (w.cell c) t.current w.act_count (w.next_number who))
      (quiet_cell k.side c (cell_in word) k.side.current 0 k.next_number) (grows_cell k.side c (cell_in word) k.side.current 0 k.next_number)
  keeps_read (reading.Control d) here may word is = either (eqb (serial_in word) d.number) refl (is_known k.side.facts (ref_of d)) refl
    where
      either : (b : Bool) → eqb (serial_in word) d.number ≡ b → (c : Bool) → is_known k.side.facts (ref_of d) ≡ c
          → Core w z words (updated keep who (record k {
            side = cond b (control_noted k.side (ref_of d) (read_control word)) (cond c (stale_noted k.side (ref_of d)) k.side);
            control = control_seen k (ref_of d) word;
          }))
      either true e c q =
          let serial : serial_in (word_at z words (part.Control d.worker)) ≡ d.number = ap serial_in (sym is) ∙ eqb_yes (serial_in word) d.number e in
          let reads_as : read_control word ≡ without_entry (w.control (ref_of d)) = ap read_control is ∙ reads_desc_control (ref_of d) here.0 serial in
          side_keeps (side_after w t who (reads_control (ref_of d))) (control_noted k.side (ref_of d) (read_control word)) (control_seen k (ref_of d) word) k.raw_rows k.raw
          (each_step_keeps w side who (reads_control (ref_of d)) rule tt)
          ((λ i. control_noted (h.side_is i) (ref_of d) (reads_as i)) ∙ erased_control t (ref_of d) (w.control (ref_of d)))
          (meets_control (ref_of d) here.0 serial (control_noted k.side (ref_of d) (read_control word))
          (λ f r i. ⊎_elim (λ j. inl (j.0, j.1 ∙ reads_as)) inr (in_control k.side (ref_of d) (read_control word) f r i))
          (grows_control k.side (ref_of d) (read_control word)) word is)
          h.raw_rows h.raw
      either false e true q =
          let o = opened_known (ref_of d) (known_yes k.side.facts (ref_of d) q) in
          let ne : serial_in (word_at z words (part.Control d.worker)) ≢ d.number = λ r. eqb_not (serial_in word) d.number e (ap serial_in is ∙ r) in
          learn_seen (stale (ref_of d) ∷ over (ref_of d) ∷ []) (both_stale (ref_of d) (older_stale (ref_of d) o ne)) (control_seen k (ref_of d) word) (seen_other (ref_of d) here.0 ne word)
      either false e false q =
          let ne : serial_in (word_at z words (part.Control d.worker)) ≢ d.number = λ r. eqb_not (serial_in word) d.number e (ap serial_in is ∙ r) in
          learn_seen [] (λ n i. absurd i) (control_seen k (ref_of d) word) (seen_other (ref_of d) here.0 ne word)
  keeps_read (reading.MarkControl x c d) here may word is = either (eqb (serial_in word) d.number) refl
    where
      same : ref_of d ≡ w.mark_desc (ref_of x)
      same = sym (true_note (desc_is (ref_of x) (ref_of d)) tt refl may.1).1

      used : IsUsed w (ref_of x)
      used = (true_note (desc_is (ref_of x) (ref_of d)) tt refl may.1).0

      opened : IsOpened (w.control (ref_of d))
      opened = subst (λ (y : Ref). IsOpened (w.control y)) (sym same) (rule.rows.used (ref_of x) used).0

      either : (b : Bool) → eqb (serial_in word) d.number ≡ b → Core w z words (updated keep who (record k {
        side = cond b (mark_noted (control_noted k.side (ref_of d) (read_control word)) (ref_of x) c (read_control word)) (note_side (stale_noted k.side (ref_of d)) (may_demote (ref_of x)));
        control = control_seen k (ref_of d) word;
      }))
      either true e =
          let serial : serial_in (word_at z words (part.Control d.worker)) ≡ d.number = ap serial_in (sym is) ∙ eqb_yes (serial_in word) d.number e in
          let f : Ref = w.mark_desc (ref_of x) in
          let reads_as : read_control word ≡ without_entry (w.control (ref_of d)) = ap read_control is ∙ reads_desc_control (ref_of d) here.0 serial in
          let of_f : read_control word ≡ without_entry (w.control f) = reads_as ∙ ap (λ (y : Ref). without_entry (w.control y)) same in
          let next : Side = mark_noted (control_noted k.side (ref_of d) (read_control word)) (ref_of x) c (read_control word) in
          side_keeps (side_after w t who (reads_mark_control (ref_of x) c)) next (control_seen k (ref_of d) word) k.raw_rows k.raw
          (each_step_keeps w side who (reads_mark_control (ref_of x) c) rule (known_note (found (ref_of x) c) tt may.0))
          ((λ i. mark_noted (control_noted (h.side_is i) (same i) (of_f i)) (ref_of x) c (of_f i))
          ∙ ap (λ (s : Side). mark_noted s (ref_of x) c (without_entry (w.control f))) (erased_control t f (w.control f)) ∙ erased_mark (control_noted t f (w.control f)) (ref_of x) c (w.control f))
          (meets_control (ref_of d) here.0 serial next
          (λ g r i. ⊎_elim (λ j. inl (j.0, j.1 ∙ reads_as)) inr (in_control k.side (ref_of d) (read_control word) g r (in_mark (control_noted k.side (ref_of d) (read_control word)) (ref_of x) c (read_control word) g r i)))
          (grows_then k.side (control_noted k.side (ref_of d) (read_control word)) next (grows_control k.side (ref_of d) (read_control word)) (grows_mark (control_noted k.side (ref_of d) (read_control word)) (ref_of x) c (read_control word))) word is)
          h.raw_rows h.raw
      either false e =
          let ne : serial_in (word_at z words (part.Control d.worker)) ≢ d.number = λ r. eqb_not (serial_in word) d.number e (ap serial_in is ∙ r) in
          let g = older_stale (ref_of d) opened ne in
          let demotes : HoldsIn w (may_demote (ref_of x)) = (used, subst (λ (y : Ref). IsDecided (w.control y)) same g.0) in
          learn_seen (may_demote (ref_of x) ∷ stale (ref_of d) ∷ over (ref_of d) ∷ [])
          (λ n i. ⊎_elim (λ (q : n ≡ may_demote (ref_of x)). subst (λ (o : Fact). IsRowFact o × HoldsIn w o) (sym q) (tt, demotes)) (both_stale (ref_of d) g n) i)
          (control_seen k (ref_of d) word) (seen_other (ref_of d) here.0 ne word)
  keeps_read (reading.Serial d) here may word is = either (was_opened (ref_of d) may) (eqb word d.number) refl
    where
      either : IsOpened (w.control (ref_of d)) → (b : Bool) → eqb word d.number ≡ b
          → Core w z words (updated keep who (record k { side = cond b (note_all k.side (rows_said k.raw_rows (ref_of d))) (stale_noted k.side (ref_of d)) }))
      either o true e = learn_all (rows_said k.raw_rows (ref_of d)) (true_rows (ref_of d) o (sym is ∙ eqb_yes word d.number e) k.raw_rows (λ r i. i))
      either o false e = learn_all (stale (ref_of d) ∷ over (ref_of d) ∷ [])
          (both_stale (ref_of d) (gone (ref_of d) o (row_stale (ref_of d) o (λ q. eqb_not word d.number e (is ∙ q)))))
  keeps_read (reading.Length d) here may word is =
      let o = opened_known (ref_of d) may in
      keep_raw_row record { desc = ref_of d; word = length_word word } record { opened = o; said = λ has. is ∙ (m.rows.descs (ref_of d) o has).length }
  keeps_read (reading.EntryCell d e) here may word is =
      let o = work_known (ref_of d) e may in
      keep_raw_row record { desc = ref_of d; word = cell_word e word } record { opened = o.0; said = λ has. is ∙ (m.rows.descs (ref_of d) o.0 has).targets e o.1 }
  keeps_read (reading.EntryOld d e) here may word is =
      let o = ⊎_elim (work_known (ref_of d) e) (mark_known (ref_of d) e) may in
      keep_raw_row record { desc = ref_of d; word = old_word e word } record { opened = o.0; said = λ has. is ∙ (m.rows.descs (ref_of d) o.0 has).olds e o.1 }
  keeps_read (reading.EntryNew d e) here may word is =
      let o = work_known (ref_of d) e may in
      keep_raw_row record { desc = ref_of d; word = new_word e word } record { opened = o.0; said = λ has. is ∙ (m.rows.descs (ref_of d) o.0 has).news e o.1 }
  keeps_read (reading.MarkSerial x) here may word is =
      let used = (true_note (found (ref_of x) may.0) tt refl may.1).0 in
      either used (eqb word x.number) refl
    where
      either : IsUsed w (ref_of x) → (b : Bool) → eqb word x.number ≡ b
          → Core w z words (updated keep who (record k { side = cond b (note_all k.side (row_said k.raw (ref_of x))) k.side }))
      either used true e = learn_all (row_said k.raw (ref_of x)) (true_words (ref_of x) used (sym is ∙ eqb_yes word x.number e) k.raw (λ r i. i))
      either used false e = still
  keeps_read (reading.MarkDesc x) here may word is =
      let used = (true_note (found (ref_of x) may.0) tt refl may.1).0 in
      keep_raw record { mark = ref_of x; word = desc_word word } record { used = used; said = λ s. is ∙ (m.rows.marks (ref_of x) used s).desc }
  keeps_read (reading.MarkEntry x) here may word is =
      let used = (true_note (found (ref_of x) may.0) tt refl may.1).0 in
      keep_raw record { mark = ref_of x; word = entry_word word } record { used = used; said = λ s. is ∙ (m.rows.marks (ref_of x) used s).entry }
  keeps_read (reading.Reason d by) here may word is =
      let reads_as = true_decided (ref_of d) (failed 0 by) may.1 in
      let f = read_as_failed (w.control (ref_of d)) 0 by reads_as.1 in
      let newest : suc d.number ≡ w.next_number d.worker = may.0.1 ∙ h.next_number ∙ ap w.next_number (sym (may.0.0 ∙ h.worker)) in
      learn (failed_at (ref_of d) word) (tt, (by, f.1 ∙ ap (λ (e : ℕ). failed e by) (sym (m.controls.reasons (ref_of d) f.0 by f.1 newest) ∙ sym is)))
