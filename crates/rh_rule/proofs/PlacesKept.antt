-- Places.
use Rattle.std.proofs.Common.{◌≡◌, ◌≢◌, ℕ, suc, eqb, ◌<◌, ◌⊎◌, Bool, true, false, cond, List, get_or, set, sym, refl, ap, ◌∙◌, subst, inl, inr, ⊎_elim, arith}
use Rattle.rh_world.specs.World.{Cell, Control, IsOpened, IsUsed, Ref, World, is_ref, updated}
use Rattle.rh_world.specs.World.Cell.{desc, mark, plain}
use Rattle.rh_world.specs.Facts.{Fact}
use Rattle.rh_world.specs.Facts.Fact.{decided, found, installed, met, mismatch, old_is, size_is, target_is}
use Rattle.rh_world.specs.Later.{Steady}
use Rattle.rh_world.specs.Sides.{Side, note_side}
use Rattle.rh_world.specs.Rule.{Rule}
use Rattle.rh_world.specs.Moves.{IsAllowed, is_plain, next_mark, place_noted, place_world, placed_noted, side_after, world_after}
use Rattle.rh_world.specs.Moves.Move.{places}
use Rattle.rh_world.proofs.Updated.{ref_path, same_nat, updated_at, updated_else, updated_here, updated_ref_here}
use Rattle.rh_words.specs.declared.shape.Shape.{Shape}
use Rattle.rh_words.specs.declared.shape.Part.{Part}
use Rattle.rh_words.specs.declared.shape.Part.TheVariants as part
use Rattle.rh_words.specs.View.{View}
use Rattle.rh_words.specs.Words.{IsPlain, cell_in, desc_number, mark_number}
use Rattle.rh_words.specs.Steps.{CanPlace, IsMark, Step, noted, own_mark, swapped}
use Rattle.rh_rule.specs.Erased.{erased}
use Rattle.rh_rule.specs.Represents.{IsCell, Kept, MarkRow, MarkStands, Represents}
use Rattle.rh_rule.specs.Core.{Core}
use Rattle.rh_rule.proofs.Frames.{word_same}
use Rattle.rh_rule.proofs.CellsKept.{cell_found, cells_new, rule_at, steady_at, still_step}
use Rattle.rh_rule.proofs.Erasing.{erased_place}
use Rattle.rh_rule.proofs.Kept.{Grows, Over, Quiet, desc_row_stays, entries_stay, mark_row_stays, represents, over_grows}
use Rattle.rh_rule.proofs.ReadsKept.{grows_note, known_note, seen_known, true_note, work_known}
use Rattle.rh_rule.proofs.Said.{plain_test}
use Rattle.rh_rule.proofs.Touched.{controls_same, counter_same, descs_same, mark_word_same, marks_same, others_stay, own_same, quiet_same, raw_row_same, raw_same, set_sized}

grows_place : (s : Side) (x d : Ref) (e c old : ℕ) (n : Cell) → Grows s (place_noted s x d e c old n 0)
grows_place s x d e c old (plain u) = either (eqb u old)
  where
    either : (b : Bool) → Grows s (cond b (placed_noted s x d e c) (note_side s (mismatch d e 0)))
    either true = record { current = refl; facts = λ m i. inr (inr (inr i)) }
    either false = grows_note s (mismatch d e 0)
grows_place s x d e c old (mark y) = grows_note s (found y c)
grows_place s x d e c old (desc f) = either (is_ref f d)
  where
    either : (b : Bool) → Grows s (cond b (note_side s (installed d e)) (note_side s (met f)))
    either true = grows_note s (installed d e)
    either false = grows_note s (met f)

quiet_note : (s : Side) (n : Fact) → ((f : Ref) (r : Control) → decided f r ≡ n → ⊥) → Quiet s (note_side s n)
quiet_note s n other = record { current = λ i q. q; facts = λ m i. inr i; decided = λ f r i. ⊎_elim (λ q. absurd (other f r q)) (λ j. j) i }

quiet_index : (s : Side) (x d : Ref) (e c old : ℕ) (n : Cell) → Quiet s (place_noted s x d e c old n 0)
quiet_index s x d e c old (plain u) = either (eqb u old)
  where
    either : (b : Bool) → Quiet s (cond b (placed_noted s x d e c) (note_side s (mismatch d e 0)))
    either true = record {
      current = λ i q. q;
      facts = λ m i. inr (inr (inr i));
      decided = λ f r i. ⊎_elim (λ q. cc) (λ j. ⊎_elim (λ q. cc) (λ j. ⊎_elim (λ q. cc) (λ j. j) j) j) i;
    }
    either false = quiet_note s (mismatch d e 0) (λ f r q. cc)
quiet_index s x d e c old (mark y) = quiet_note s (found y c) (λ f r q. cc)
quiet_index s x d e c old (desc f) = either (is_ref f d)
  where
    either : (b : Bool) → Quiet s (cond b (note_side s (installed d e)) (note_side s (met f)))
    either true = quiet_note s (installed d e) (λ g r q. cc)
    either false = quiet_note s (met f) (λ g r q. cc)

module _ (z : Shape) (words : List ℕ) (keep : ℕ → View) (w : World) (side : ℕ → Side) (rule : Rule w side) (m : Represents z words keep w side) (who : ℕ) (mine : who < z.workers) (d : Ref) (e : ℕ) (can : CanPlace z (keep who) d e (w.target d e) (w.old d e)) where
  abbrev k : View
  k = keep who

  abbrev t : Side
  t = side who

  h : Kept z words w t who k
  h = m.kept who mine

  abbrev c : ℕ
  c = w.target d e

  abbrev old : ℕ
  old = w.old d e

  abbrev word : ℕ
  word = get_or words c 0

  abbrev x : Ref
  x = next_mark w who

  work : IsOpened (w.control d) × (e < w.size d)
  work = work_known z words keep w side rule m who mine d e can.work

  may : IsAllowed w side who (places d e)
  may = (record { size = can.work.size; known = known_note z words keep w side rule m who mine (size_is d can.work.size) tt can.work.known; within = can.work.within }, ap (λ (s : Side). s.unsettled) (sym h.side_is) ∙ can.settled, seen_known z words keep w side rule m who mine d can.seen)

  own_mark_is : own_mark k ≡ x
  own_mark_is = ref_path (own_mark k) x h.worker h.marks_used

  -- what is noted is what the world's step notes
  side_is : place_noted k.side (own_mark k) d e c old (cell_in word) 0 ≡ erased (side_after w t who (places d e))
  side_is = (λ i. place_noted (h.side_is i) (own_mark_is i) d e c old (cell_found z words keep w side rule m who mine c can.cell i) 0)
      ∙ erased_place t x d e c old (w.cell c) w.act_count

  over : Over who k.opened (place_noted k.side (own_mark k) d e c old (cell_in word) 0)
  over = over_grows k.side (place_noted k.side (own_mark k) d e c old (cell_in word) 0) who k.opened (grows_place k.side (own_mark k) d e c old (cell_in word)) h.over

  calm : Quiet k.side (place_noted k.side (own_mark k) d e c old (cell_in word) 0)
  calm = quiet_index k.side (own_mark k) d e c old (cell_in word)

  abbrev v : World
  v = place_world w x d e

  used_or : (y : Ref) → IsUsed v y → (y ≡ x) ⊎ IsUsed w y
  used_or y u = ⊎_elim
      (λ (p : (y.worker ≡ who) × (updated w.marks_used who (suc (w.marks_used who)) y.worker ≡ suc (w.marks_used who))).
      let lt : y.number < suc (w.marks_used who) = subst (λ (n : ℕ). y.number < n) p.1 u in
      ⊎_elim (λ (q : y.number ≡ w.marks_used who). inl (ref_path y x p.0 q))
      (λ (ne : y.number ≢ w.marks_used who). let less : y.number < w.marks_used who = omega arith in inr (subst (λ (n : ℕ). y.number < w.marks_used n) (sym p.0) less)) (same_nat y.number (w.marks_used who)))
      (λ p. inr (subst (λ (n : ℕ). y.number < n) p.1 u)) (updated_at w.marks_used who y.worker (suc (w.marks_used who)))

  marks_now : v.marks_used who ≡ suc (w.marks_used who)
  marks_now = updated_here w.marks_used who who (suc (w.marks_used who)) refl

  abbrev then : List ℕ
  then = set words c (mark_number x)

  abbrev p : Part
  p = part.Cell c

  is_mark : IsMark z x
  is_mark = (mine, subst (λ (n : ℕ). n < z.rooms.marks) h.marks_used can.room)

  -- the row of the mark was written before
  stands : MarkStands z then x
  stands = word_same z words p (mark_number x) can.cell (part.MarkSerial who) mine (λ q. cc) ∙ h.written (part.MarkSerial who) refl ∙ can.serial ∙ h.marks_used

  new_row : MarkRow z then v x
  new_row = record {
    desc = word_same z words p (mark_number x) can.cell (part.MarkDesc who) mine (λ q. cc) ∙ h.written (part.MarkDesc who) refl ∙ can.desc ∙ ap desc_number (sym (updated_ref_here w.mark_desc x x d refl));
    entry = word_same z words p (mark_number x) can.cell (part.MarkEntry who) mine (λ q. cc) ∙ h.written (part.MarkEntry who) refl ∙ can.entry ∙ sym (updated_ref_here w.mark_entry x x e refl);
  }

  placed : is_plain (w.cell c) old ≡ true
      → Core (world_after w who (places d e)) z then (updated keep who (record k { side = place_noted k.side (own_mark k) d e c old (cell_in word) 0; marks_used = suc k.marks_used }))
  placed same_word =
      let same : world_after w who (places d e) ≡ v = ap (λ (b : Bool). cond b v w) same_word in
      let l : Steady w v = steady_at z words keep w side rule m who mine (places d e) may v same in
      let s : Side = side_after w t who (places d e) in
      let k' : View = record k { side = place_noted k.side (own_mark k) d e c old (cell_in word) 0; marks_used = suc k.marks_used } in
      let n : ℕ = mark_number x in
      let room : k.marks_used < z.rooms.marks = can.room in
      let used : k.marks_used ≡ w.marks_used who = h.marks_used in
      let meets = quiet_same z words keep w side m p can.cell n v l who mine (λ o. o) (place_noted k.side (own_mark k) d e c old (cell_in word) 0) calm over (λ f i q. q) in
      subst (λ (y : World). Core y z then (updated keep who k')) (sym same) record {
        side = updated side who s;
        rule = rule_at z words keep w side rule m who mine (places d e) may v same;
        represents = represents z words then keep w v side m l who mine s k'
            (set_sized z words keep w side m p can.cell n v l)
            (counter_same z words keep w side m p can.cell n v l (λ q. cc) refl)
            (cells_new z words keep w side rule m who mine c (mark x) v can.cell is_mark (λ j. refl))
            (controls_same z words keep w side m p can.cell n v l (λ a q. cc) (λ a b q. cc) (λ f. refl) (λ u. refl))
            record {
              entries = λ f o. entries_stay z words then w v l f o (m.rows.entries f o);
              descs = λ f o. desc_row_stays z words then w v l (descs_same z words keep w side m p can.cell n v l (λ o. o)) m.rows f (m.controls.descs f o) o;
              are_marks = λ y u. ⊎_elim (λ (q : y ≡ x). subst (λ (i : Ref). IsMark z i) (sym q) is_mark) (m.rows.are_marks y) (used_or y u);
              marks = λ y u here. ⊎_elim (λ (q : y ≡ x). subst (λ (i : Ref). MarkRow z then v i) (sym q) new_row)
                  (λ (u : IsUsed w y). mark_row_stays z words then w v l (marks_same z words keep w side m p can.cell n v l (λ o. o)) m.rows y u here) (used_or y u);
              placed = λ j y lt q. ⊎_elim
                  (λ (r : (j ≡ c) × (updated w.cell c (mark x) j ≡ mark x)). let same : x ≡ y = (let i : mark x ≡ mark y = sym r.1 ∙ q in cc) in subst (λ (i : Ref). MarkStands z then i) same stands)
                  (λ (r : (j ≢ c) × (updated w.cell c (mark x) j ≡ w.cell j)).
                  let before : w.cell j ≡ mark y = sym r.1 ∙ q in
                  let here : IsMark z y = subst (λ (i : Cell). IsCell z i) before (m.cells.standing j lt) in
                  mark_word_same z words keep w side m p can.cell n v l (λ o. o) (part.MarkSerial y.worker) here.0 tt ∙ m.rows.placed j y lt before)
                  (updated_at w.cell c j (mark x));
            }
            record {
              worker = h.worker;
              still = h.still;
              side_is = side_is;
              opening = h.opening;
              next_number = h.next_number;
              desc_room = h.desc_room;
              no_control = meets.no_control;
              control = meets.control;
              open_row = meets.open_row;
              failures = meets.failures;
              marks_used = ap suc used ∙ sym marks_now;
              mark_room = omega arith;
              written = λ q i. own_same z words keep w side m p can.cell n v l who mine (λ o. o) q i ∙ h.written q i;
              raw_rows = λ r i. raw_row_same z words keep w side m p can.cell n v l (λ o. o) r (h.raw_rows r i);
              raw = λ r i. raw_same z words keep w side m p can.cell n v l (λ o. o) r (h.raw r i);
              opened = λ o i. let r = h.opened o i in record { opened = r.opened; size = r.size; targets = r.targets; olds = r.olds; news = r.news };
              all = h.all;
              falling = h.falling;
              over = over;
            }
            (others_stay z words keep w side m p can.cell n v l who (λ u ne. refl) (λ u ne. updated_else w.marks_used who u (suc (w.marks_used who)) ne) (λ f ne o. o) (λ u ne o. o) (descs_same z words keep w side m p can.cell n v l (λ o. o)) (marks_same z words keep w side m p can.cell n v l (λ o. o)) (λ u ne f i q. q));
      }

  place_here : Core (world_after w who (places d e)) z (set words c (swapped old (mark_number (own_mark k)) word)) (updated keep who (noted z k (Step.places d e c old) word))
  place_here =
      let plain_old : IsPlain old = (m.rows.entries d work.0).plain_olds e work.1 in
      let test : eqb word old ≡ is_plain (w.cell c) old = ap (λ (n : ℕ). eqb n old) (m.cells.cells c can.cell) ∙ plain_test z (w.cell c) old (m.cells.standing c can.cell) plain_old in
      let s : Side = place_noted k.side (own_mark k) d e c old (cell_in word) 0 in
      let q : Bool → Type 0 = λ b. Core (world_after w who (places d e)) z (set words c (cond b (mark_number (own_mark k)) word)) (updated keep who (record k { side = s; marks_used = cond b (suc k.marks_used) k.marks_used })) in
      subst q (sym test) (either (is_plain (w.cell c) old) refl)
    where
      either : (b : Bool) → is_plain (w.cell c) old ≡ b
          → Core (world_after w who (places d e)) z (set words c (cond b (mark_number (own_mark k)) word)) (updated keep who (record k { side = place_noted k.side (own_mark k) d e c old (cell_in word) 0; marks_used = cond b (suc k.marks_used) k.marks_used }))
      either true same_word = subst (λ (y : Ref). Core (world_after w who (places d e)) z (set words c (mark_number y)) (updated keep who (record k { side = place_noted k.side (own_mark k) d e c old (cell_in word) 0; marks_used = suc k.marks_used }))) (sym own_mark_is) (placed same_word)
      either false not = still_step z words keep w side rule m who mine (places d e) may c (ap (λ (b : Bool). cond b v w) not) (place_noted k.side (own_mark k) d e c old (cell_in word) 0) side_is over calm

module _ (z : Shape) (words : List ℕ) (keep : ℕ → View) (w : World) (side : ℕ → Side) (rule : Rule w side) (m : Represents z words keep w side) (who : ℕ) (mine : who < z.workers) where
  pub keeps_place : (d : Ref) (e c old : ℕ) → CanPlace z (keep who) d e c old
      → Core (world_after w who (places d e)) z (set words c (swapped old (mark_number (own_mark (keep who))) (get_or words c 0))) (updated keep who (noted z (keep who) (Step.places d e c old) (get_or words c 0)))
  keeps_place d e c old can =
      let p : w.target d e ≡ c = (true_note z words keep w side rule m who mine (target_is d e c) tt refl can.knows_cell).1 in
      let q : w.old d e ≡ old = (true_note z words keep w side rule m who mine (old_is d e old) tt refl can.knows_old).1 in
      subst (λ (y : ℕ × ℕ). CanPlace z (keep who) d e y.0 y.1 → Core (world_after w who (places d e)) z (set words y.0 (swapped y.1 (mark_number (own_mark (keep who))) (get_or words y.0 0))) (updated keep who (noted z (keep who) (Step.places d e y.0 y.1) (get_or words y.0 0))))
      (λ i. (p i, q i)) (λ can. place_here z words keep w side rule m who mine d e can) can
