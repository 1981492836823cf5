-- Decides.
use Rattle.std.proofs.Common.{suc, ◌≡◌, ◌≢◌, ℕ, eqb, ◌<◌, ◌≤◌, ◌⊎◌, Bool, true, false, true≢false, cond, List, set, sym, refl, ap, ◌∙◌, subst, inl, inr, ⊎_elim, arith, eq-eqb}
use Rattle.std.proofs.lemmas.List.{set-get_or}
use Rattle.rh_world.specs.World.{Cell, Control, In, IsDecided, IsOpened, Ref, World, updated, updated_ref}
use Rattle.rh_world.specs.World.Control.{failed, succeeded, undecided, unused, withdrawn}
use Rattle.rh_world.specs.Facts.Fact.{decided, installed, known, size_is}
use Rattle.rh_world.specs.Later.{Steady}
use Rattle.rh_world.specs.Sides.{Side}
use Rattle.rh_world.specs.Rule.{Rule}
use Rattle.rh_world.specs.Moves.{IsAllowed, MayDecide, control_noted, decided_world, side_after, world_after}
use Rattle.rh_world.specs.Moves.Move.{decides}
use Rattle.rh_world.proofs.Tests.{eqb_not, eqb_yes}
use Rattle.rh_world.proofs.Updated.{ref_path, updated_ref_at, updated_ref_here}
use Rattle.rh_words.specs.declared.shape.Shape.{Shape}
use Rattle.rh_words.specs.declared.shape.Part.{Part}
use Rattle.rh_words.specs.declared.shape.Part.TheVariants as part
use Rattle.rh_words.specs.declared.reference.Reading.TheVariants as reading
use Rattle.rh_words.specs.Parts.{reason_row, index_of}
use Rattle.rh_words.specs.View.{View}
use Rattle.rh_words.specs.Words.{control_word_of, read_control, serial_in, with_entry, without_entry}
use Rattle.rh_words.specs.Steps.{CanDecide, IsResult, control_read, control_seen, decided_so, row_word, swapped}
use Rattle.rh_rule.specs.Erased.{erased}
use Rattle.rh_rule.specs.Represents.{Controls, Kept, Represents, word_at}
use Rattle.rh_rule.specs.Core.{Core}
use Rattle.rh_rule.proofs.CellsKept.{rule_at, steady_at}
use Rattle.rh_rule.proofs.Deciders.{set_decided, set_failed, set_number, set_state, read_as_number}
use Rattle.rh_rule.proofs.Erasing.{erased_control, in_mismatch}
use Rattle.rh_rule.proofs.Frames.{word_new, word_same}
use Rattle.rh_rule.proofs.Kept.{Meets, kept_stays, represents}
use Rattle.rh_rule.proofs.ReadsKept.{control_word, grows_control, in_control, keeps_read, known_note, meets_seen, newest_word, older_stale, opened_known, true_decided}
use Rattle.rh_rule.proofs.Said.{HasState, control_said_is, is_undecided, serial_said_is, undecided_test}
use Rattle.rh_rule.proofs.Touched.{cells_same, counter_same, descs_same, marks_same, marks_stay, others_stay, own_same, placed_same, raw_row_same, raw_same, rows_same, serial_same, set_sized}

-- the world after: the control alone is of interest to the words
record OnlyControl (w v : World) (control : Ref → Control) : Type 0 where
  pub cell : v.cell ≡ w.cell
  pub control_is : v.control ≡ control
  pub next_number : v.next_number ≡ w.next_number
  pub marks_used : v.marks_used ≡ w.marks_used
  pub counter : v.counter ≡ w.counter

only_control : (w : World) (d : Ref) (r : Control) → IsDecided r
    → OnlyControl w (decided_world w d undecided r) (updated_ref w.control d r)
only_control w d unused h = absurd h
only_control w d undecided h = absurd h
only_control w d _ h = record { cell = refl; control_is = refl; next_number = refl; marks_used = refl; counter = refl }

pub decided_before : (w : World) (d : Ref) (k r : Control) → is_undecided k ≡ false → decided_world w d k r ≡ w
decided_before w d undecided r h = absurd (true≢false h)
decided_before w d _ r h = refl

undecided_is : (k : Control) → is_undecided k ≡ true → k ≡ undecided
undecided_is undecided h = refl
undecided_is _ h = absurd (true≢false (sym h))

decided_closed : (k : Control) → IsDecided k → is_undecided k ≡ false
decided_closed unused h = absurd h
decided_closed undecided h = absurd h
decided_closed _ h = refl

opened_decided : (k : Control) → IsDecided k → IsOpened k
opened_decided k h e = subst IsDecided e h

module _ (z : Shape) (words : List ℕ) (keep : ℕ → View) (w : World) (side : ℕ → Side) (rule : Rule w side) (m : Represents z words keep w side) (who : ℕ) (mine : who < z.workers) (d : Ref) (r : Control) (can : CanDecide z (keep who) d r) where
  abbrev k : View
  k = keep who

  abbrev t : Side
  t = side who

  h : Kept z words w t who k
  h = m.kept who mine

  abbrev p : Part
  p = part.Control d.worker

  abbrev word : ℕ
  word = word_at z words p

  -- the entry that the own reason names
  abbrev entry : ℕ
  entry = row_word k.written (reason_row z d.worker)

  abbrev set_to : Control
  set_to = decided_so z k d r

  abbrev num : ℕ
  num = control_word_of d.number set_to

  may_decide : (r : Control) → MayDecide k.side k.worker d (with_entry entry r) → MayDecide t who d (with_entry entry r)
  may_decide unused q = q
  may_decide undecided q = q
  may_decide succeeded q = (q.0, known_note z words keep w side rule m who mine (size_is d q.0) tt q.1, λ e i. known_note z words keep w side rule m who mine (installed d e) tt (q.2 e i))
  may_decide withdrawn q = q ∙ h.worker
  may_decide (failed e by) q = (q.0 ∙ h.worker, in_mismatch d entry q.1.0 t (subst (λ (s : Side). In (Rattle.rh_world.specs.Facts.Fact.mismatch d entry q.1.0) s.facts) h.side_is q.1.1))

  may : IsAllowed w side who (decides d set_to)
  may = (known_note z words keep w side rule m who mine (known d) tt can.known, may_decide r can.may)

  -- it is withdrawn by its own worker, where no mark is left
  full : (r : Control) → MayDecide k.side k.worker d (with_entry entry r) → IsResult z k r → with_entry entry r ≡ withdrawn → z.rooms.marks ≤ w.marks_used d.worker
  full unused q i is = absurd q
  full undecided q i is = absurd q
  full succeeded q i is = cc
  full withdrawn q i is = subst (λ (u : ℕ). z.rooms.marks ≤ w.marks_used u) (sym (q ∙ h.worker)) (subst (λ (n : ℕ). z.rooms.marks ≤ n) h.marks_used i)
  full (failed e by) q i is = cc

  opened : IsOpened (w.control d)
  opened = opened_known z words keep w side rule m who mine d (inl (inl can.known))

  has_state : HasState set_to
  has_state = set_state z k entry r (let few : z.workers ≤ 16 = z.workers_fit in let is : k.worker ≡ who = h.worker in omega arith) can.result

  is_decided : IsDecided set_to
  is_decided = set_decided z k entry r can.result

  -- the world and the words as a swap leaves them that found this word, and what is noted
  abbrev After : (left : ℕ) → Type 0
  After left = Core (world_after w who (decides d set_to)) z (set words (index_of z p) left)
      (updated keep who (record k { side = control_read k.side d left; control = control_seen k d left }))

  -- the swap found another word: so d is decided, and this is a Read
  pub closed : eqb word (control_word_of d.number undecided) ≡ false → is_undecided (w.control d) ≡ false
  closed late = either (eqb (serial_in word) d.number) refl
    where
      either : (b : Bool) → eqb (serial_in word) d.number ≡ b → is_undecided (w.control d) ≡ false
      either true e =
          let next = control_word z words keep w side rule m who mine d can.desc.0 (eqb_yes (serial_in word) d.number e) opened in
          let is = newest_word z words keep w side rule m who mine d can.desc.0 next in
          sym (undecided_test d.number (w.control d) is.1) ∙ ap (λ (n : ℕ). eqb n (control_word_of d.number undecided)) (sym is.0) ∙ late
      either false e = decided_closed (w.control d) (older_stale z words keep w side rule m who mine d opened (eqb_not (serial_in word) d.number e)).0

  decides_late : eqb word (control_word_of d.number undecided) ≡ false → After word
  decides_late late =
      let same : world_after w who (decides d set_to) ≡ w = decided_before w d (w.control d) set_to (closed late) in
      subst (λ (y : World × List ℕ). Core y.0 z y.1 (updated keep who (record k { side = control_read k.side d word; control = control_seen k d word })))
      (λ i. (sym same i, sym (set-get_or words (index_of z p) 0) i))
      (keeps_read z words keep w side rule m who mine (reading.Control record { worker = d.worker; number = d.number }) can.desc tt word refl)

  -- the swap took place: d was undecided, and the newest of its worker
  module _ (hit : word ≡ control_word_of d.number undecided) where
    next : suc d.number ≡ w.next_number d.worker
    next = control_word z words keep w side rule m who mine d can.desc.0 (ap serial_in hit ∙ serial_said_is d.number undecided tt) opened

    before : w.control d ≡ undecided
    before =
        let is = newest_word z words keep w side rule m who mine d can.desc.0 next in
        undecided_is (w.control d) (sym (undecided_test d.number (w.control d) is.1) ∙ eq-eqb (control_word_of d.number (w.control d)) (control_word_of d.number undecided) (sym is.0 ∙ hit))

    abbrev v : World
    v = decided_world w d undecided set_to

    same : world_after w who (decides d set_to) ≡ v
    same = ap (λ (y : Control). decided_world w d y set_to) before

    only : OnlyControl w v (updated_ref w.control d set_to)
    only = only_control w d set_to is_decided

    l : Steady w v
    l = steady_at z words keep w side rule m who mine (decides d set_to) may v same

    abbrev then : List ℕ
    then = set words (index_of z p) num

    abbrev s : Side
    s = side_after w t who (decides d set_to)

    control_is : (f : Ref) → v.control f ≡ updated_ref w.control d set_to f
    control_is f = ap (λ (g : Ref → Control). g f) only.control_is

    control_or : (f : Ref) → ((f ≡ d) × (v.control f ≡ set_to)) ⊎ ((f ≢ d) × (v.control f ≡ w.control f))
    control_or f = ⊎_elim (λ q. inl (q.0, control_is f ∙ q.1)) (λ q. inr (q.0, control_is f ∙ q.1)) (updated_ref_at w.control d f set_to)

    now : v.control d ≡ set_to
    now = control_is d ∙ updated_ref_here w.control d d set_to refl

    numbers : (u : ℕ) → v.next_number u ≡ w.next_number u
    numbers u = ap (λ (f : ℕ → ℕ). f u) only.next_number

    marks : (u : ℕ) → v.marks_used u ≡ w.marks_used u
    marks u = ap (λ (f : ℕ → ℕ). f u) only.marks_used

    back : (f : Ref) → IsOpened (v.control f) → IsOpened (w.control f)
    back f o = ⊎_elim (λ q. subst (λ (y : Ref). IsOpened (w.control y)) (sym q.0) opened) (λ q e. o (q.1 ∙ e)) (control_or f)

    -- a descriptor that failed was set so now, by this worker, or failed before
    failed_or : (f : Ref) (e by : ℕ) → v.control f ≡ failed e by → ((f ≡ d) × (entry ≡ e) × (by ≡ who)) ⊎ (w.control f ≡ failed e by)
    failed_or f e by q = ⊎_elim
        (λ a. let is = set_failed z k entry r can.result e by (sym a.1 ∙ q) in inl (a.0, is.0, is.1 ∙ h.worker))
        (λ a. inr (sym a.1 ∙ q)) (control_or f)

    other_word : (u : ℕ) → u < z.workers → u ≢ d.worker → word_at z then (part.Control u) ≡ word_at z words (part.Control u)
    other_word u lt ne = word_same z words p num can.desc.0 (part.Control u) lt (λ e. ne (let q : u ≡ d.worker = cc in q))

    note_same : (by owner : ℕ) → by < z.workers → owner < z.workers → word_at z then (part.Reason by owner) ≡ word_at z words (part.Reason by owner)
    note_same by owner lt own = word_same z words p num can.desc.0 (part.Reason by owner) (lt, own) (λ e. cc)

    newest : (f : Ref) → f.worker < z.workers → suc f.number ≡ w.next_number f.worker → ((f ≡ d) × (v.control f ≡ set_to)) ⊎ ((f ≢ d) × (v.control f ≡ w.control f))
        → IsOpened (v.control f) × (word_at z then (part.Control f.worker) ≡ control_word_of f.number (v.control f))
    newest f lt e (inl q) = subst (λ (y : Ref). IsOpened (v.control y) × (word_at z then (part.Control y.worker) ≡ control_word_of y.number (v.control y))) (sym q.0)
        (subst (λ (c : Control). IsOpened c) (sym now) (opened_decided set_to is_decided), word_new z words p num can.desc.0 m.sized ∙ ap (control_word_of d.number) (sym now))
    newest f lt e (inr q) =
        let was = m.controls.newest f lt e in
        let other : f.worker ≢ d.worker = λ a. q.0 (ref_path f d a (let b : suc f.number ≡ suc d.number = e ∙ ap w.next_number a ∙ sym next in omega (arith, b))) in
        ((λ o. was.0 (sym q.1 ∙ o)), other_word f.worker lt other ∙ was.1 ∙ ap (control_word_of f.number) (sym q.1))

    controls : Controls z then v
    controls = record {
      unopened = λ u lt e. other_word u lt (λ a. let none : w.next_number d.worker ≡ 0 = ap w.next_number (sym a) ∙ sym (numbers u) ∙ e in let bad : suc d.number ≡ 0 = next ∙ none in absurd (omega (arith, bad)))
          ∙ m.controls.unopened u lt (sym (numbers u) ∙ e);
      newest = λ f lt e. newest f lt (e ∙ numbers f.worker) (control_or f);
      descs = λ f o. m.controls.descs f (back f o);
      withdrawals = λ f q. ⊎_elim
          (λ a. subst (λ (n : ℕ). z.rooms.marks ≤ n) (sym (marks f.worker)) (subst (λ (y : Ref). z.rooms.marks ≤ w.marks_used y.worker) (sym a.0) (full r can.may can.result (sym a.1 ∙ q))))
          (λ a. marks_stay z.rooms.marks w v l f.worker (m.controls.withdrawals f (sym a.1 ∙ q))) (control_or f);
      deciders = λ f e by q. ⊎_elim (λ a. subst (λ (u : ℕ). u < z.workers) (sym a.2) mine) (m.controls.deciders f e by) (failed_or f e by q);
      reasons = λ f e by q is. ⊎_elim
          (λ a. subst (λ (u : ℕ). word_at z then (part.Reason by u) ≡ e) (ap (λ (y : Ref). y.worker) (sym a.0))
          (subst (λ (u : ℕ). word_at z then (part.Reason u d.worker) ≡ e) (sym a.2) (note_same who d.worker mine can.desc.0 ∙ h.written (part.Reason who d.worker) (refl, can.desc.0) ∙ a.1)))
          (λ a. note_same by f.worker (m.controls.deciders f e by a) (m.controls.descs f (λ u. let bad : failed e by ≡ unused = sym a ∙ u in cc)).0 ∙ m.controls.reasons f e by a (is ∙ numbers f.worker))
          (failed_or f e by q);
    }

    said : read_control num ≡ without_entry set_to
    said = control_said_is d.number set_to has_state

    abbrev x : Side
    x = control_noted k.side d (read_control num)

    side_is : x ≡ erased s
    side_is =
        let reads_as : read_control num ≡ without_entry ((world_after w who (decides d set_to)).control d) = said ∙ ap without_entry (sym now) ∙ ap (λ (y : World). without_entry (y.control d)) (sym same) in
        (λ i. control_noted (h.side_is i) d (reads_as i)) ∙ erased_control t d ((world_after w who (decides d set_to)).control d)

    -- d was noted as undecided at most
    not_decided : (j : Control) → In (decided d j) k.side.facts → ⊥
    not_decided j i =
        let is = true_decided z words keep w side rule m who mine d j i in
        subst IsDecided (sym is.1 ∙ ap without_entry before) is.0

    meets : Meets z then v who k x (control_seen k d num)
    meets = meets_seen z words keep w side rule m who mine then v (serial_same z words keep w side m p can.desc.0 num v l (λ o. o) who mine) d (read_control num) x
        (in_control k.side d (read_control num)) (λ j i. absurd (not_decided j i)) (grows_control k.side d (read_control num)) num
        (λ q. sym (read_as_number d.number set_to) ∙ ap (control_word_of d.number) (sym said))
        (λ f e q. ⊎_elim
        (λ a. let reads_as : read_control num ≡ failed 0 who = said ∙ ap without_entry (sym now ∙ ap v.control (sym a.0) ∙ q) in
        subst (λ (y : Ref). In (decided y (failed 0 who)) x.facts) (sym a.0) (subst (λ (c : Control). In (decided d (failed 0 who)) (control_noted k.side d c).facts) (sym reads_as) (inl refl)))
        (λ a. (grows_control k.side d (read_control num)).facts (decided f (failed 0 who)) (h.failures f e a)) (failed_or f e who q))

    decides_now : After num
    decides_now = subst (λ (b : Bool). Core (world_after w who (decides d set_to)) z then
        (updated keep who (record k { side = cond b x (cond (Rattle.rh_words.specs.Steps.is_known k.side.facts d) (Rattle.rh_words.specs.Steps.stale_noted k.side d) k.side); control = control_seen k d num })))
        (sym (eq-eqb (serial_in num) d.number (serial_said_is d.number set_to has_state)))
        (subst (λ (y : World). Core y z then (updated keep who (record k { side = x; control = control_seen k d num }))) (sym same) record {
          side = updated side who s;
          rule = rule_at z words keep w side rule m who mine (decides d set_to) may v same;
          represents = represents z words then keep w v side m l who mine s (record k { side = x; control = control_seen k d num })
              (set_sized z words keep w side m p can.desc.0 num v l)
              (counter_same z words keep w side m p can.desc.0 num v l (λ q. cc) only.counter)
              (cells_same z words keep w side m p can.desc.0 num v l (λ c q. cc) (λ c. ap (λ (f : ℕ → Cell). f c) only.cell))
              controls
              (rows_same z words keep w side m p can.desc.0 num v l back (λ y o. subst (λ (i : ℕ). y.number < i) (marks y.worker) o)
              (descs_same z words keep w side m p can.desc.0 num v l (λ o. o)) (marks_same z words keep w side m p can.desc.0 num v l (λ o. o))
              (placed_same z words keep w side m p can.desc.0 num v l (λ o. o) (λ j i q. sym (ap (λ (f : ℕ → Cell). f j) only.cell) ∙ q)))
              (kept_stays z words then w v l t s who k x (control_seen k d num) k.raw_rows k.raw (numbers who) (marks who) (λ i o. back record { worker = who; number = i } o)
              (own_same z words keep w side m p can.desc.0 num v l who mine (λ o. o))
              (λ q i. raw_row_same z words keep w side m p can.desc.0 num v l (λ o. o) q (h.raw_rows q i)) (λ q i. raw_same z words keep w side m p can.desc.0 num v l (λ o. o) q (h.raw q i))
              side_is meets h)
              (others_stay z words keep w side m p can.desc.0 num v l who (λ u ne. numbers u) (λ u ne. marks u) (λ f ne o. back f o) (λ u ne o. o)
              (descs_same z words keep w side m p can.desc.0 num v l (λ o. o)) (marks_same z words keep w side m p can.desc.0 num v l (λ o. o))
              (λ u ne f e q. ⊎_elim (λ a. absurd (ne a.2)) (λ a. a) (failed_or f e u q)));
        })

  pub keeps_decide : After (swapped (control_word_of d.number undecided) (control_word_of d.number r) word)
  keeps_decide = either (eqb word (control_word_of d.number undecided)) refl
    where
      either : (b : Bool) → eqb word (control_word_of d.number undecided) ≡ b → After (cond b (control_word_of d.number r) word)
      either true e = subst After (set_number d.number entry r) (decides_now (eqb_yes word (control_word_of d.number undecided) e))
      either false e = decides_late e
