-- Each allowed step keeps the parts of the rule.
use Rattle.std.proofs.Common.{◌≡◌, ◌≢◌, ℕ, zero, suc, eqb, ◌<◌, Bool, true, false, true≢false, cond, ◌&&◌, List, [], ◌∷◌, sym, refl, ap, ◌∙◌, subst, inl, inr, ⊎_elim, arith, Some, None, Option}
use Rattle.rh_world.specs.World.{Cell, Control, In, IsDecided, IsOpened, IsUsed, Ref, World, is_ref, updated, updated_ref}
use Rattle.rh_world.specs.World.Cell.{desc, mark, plain}
use Rattle.rh_world.specs.World.Control.{failed, succeeded, undecided, unused, withdrawn}
use Rattle.rh_world.specs.Logical.{StandsFor}
use Rattle.rh_world.specs.Facts.{HoldsIn, IsMismatch, Fact}
use Rattle.rh_world.specs.Facts.Fact.{decided, desc_is, found, installed, known, may_demote, may_promote, met, mismatch, new_is, old_is, size_is, target_is, which_is}
use Rattle.rh_world.specs.Sides.{Side, close_side, forget_side, is_number, note_side, open_side, paid_side, place_side, release_side, settle_side}
use Rattle.rh_world.specs.Acts.{Acts}
use Rattle.rh_world.specs.Prefixes.{Prefixes}
use Rattle.rh_world.specs.Moves.{Entries, IsAllowed, MayDecide, Move, cell_noted, cell_world, claim_world, control_noted, covers, decided_world, is_desc, is_mark, is_plain, mark_noted, next_desc, next_mark, note_all, note_entries, open_world, place_noted, place_world, placed_noted, release_noted, released_cell, settle_noted, settled_cell, sides_after, world_after}
use Rattle.rh_world.specs.Moves.Move.{claims, decides, learns, opens, places, reads_cell, reads_control, reads_mark_control, releases, settles}
use Rattle.rh_world.proofs.ActsKept.{succeeded_opened}
use Rattle.rh_world.proofs.Partly.{Partly, noted}
use Rattle.rh_world.proofs.PartsKept.{and_then, parts_claim, parts_claimed, parts_closed, parts_demote, parts_fail, parts_forget, parts_none, parts_note, parts_open, parts_paid, parts_place, parts_promote, parts_read, parts_release, parts_released, parts_settle, parts_succeed, parts_withdraw}
use Rattle.rh_world.proofs.Stays.{at_work}
use Rattle.rh_world.proofs.StepsLater.{known_over}
use Rattle.rh_world.proofs.Tests.{by_cond, covers_in, eqb_not, eqb_yes, is_desc_not, is_desc_yes, is_mark_not, is_mark_yes, is_number_yes, is_ref_yes}
use Rattle.rh_world.proofs.Updated.{ref_path, updated_at, updated_here, updated_ref_here}

module _ (A P : Type 0) where
  -- a side after a side
  module _ (w : World) (side : ℕ → Side) (who : ℕ) where
    more_note : (s : Side) (n : Fact) → HoldsIn w n → Partly A P w (updated side who s)
        → Partly A P w (updated side who (note_side s n))
    more_note s n t = and_then A P w side who s (note_side s n) (λ f e r. subst (λ (x : Side). Partly A P w (updated f who (note_side x n))) e (parts_note A P w f who r n (noted A P w n t)))

  module _ (w : World) (side : ℕ → Side) (who : ℕ) (r : Partly A P w side) where
    one_note : (n : Fact) → HoldsIn w n → Partly A P w (updated side who (note_side (side who) n))
    one_note n t = parts_note A P w side who r n (noted A P w n t)

    step_notes : (ns : List Fact) → ((n : Fact) → In n ns → HoldsIn w n) → Partly A P w (updated side who (note_all (side who) ns))
    step_notes [] t = parts_none A P w side who r
    step_notes (n ∷ ns) t = more_note w side who (note_all (side who) ns) n (t n (inl refl)) (step_notes ns (λ m i. t m (inr i)))

    step_control : (d : Ref) (k : Control) → w.control d ≡ k
        → Partly A P w (updated side who (control_noted (side who) d k))
    step_control d unused e = parts_none A P w side who r
    step_control d undecided e = more_note w side who (forget_side (side who) d) (known d) (λ q. let t : undecided ≡ unused = sym e ∙ q in cc) (parts_forget A P w side who r d e)
    step_control d succeeded e = one_note (decided d succeeded) (tt, e)
    step_control d withdrawn e = one_note (decided d withdrawn) (tt, e)
    step_control d (failed n by) e = one_note (decided d (failed n by)) (tt, e)

    step_mark : (x : Ref) (c : ℕ) (k : Control) → IsUsed w x → w.control (w.mark_desc x) ≡ k → (s : Side)
        → Partly A P w (updated side who s) → Partly A P w (updated side who (mark_noted s x c k))
    step_mark x c unused u e s h = h
    step_mark x c undecided u e s h = more_note w side who s (may_promote x c) (u, λ q t. let a : undecided ≡ succeeded = sym e ∙ t in cc) h
    step_mark x c _ u e s h = more_note w side who s (may_demote x) (u, subst IsDecided (sym e) tt) h

    found_is : (c : ℕ) (x : Ref) → w.cell c ≡ mark x → HoldsIn w (found x c)
    found_is c x e = let m = r.rows.marks c x e in (m.used, m.here)

    step_cell : (c : ℕ) (k : Cell) (p : Option ℕ) → w.cell c ≡ k → (side who).current ≡ p
        → Partly A P w (updated side who (cell_noted (side who) c k p w.act_count (w.next_number who)))
    step_cell c (plain u) None e q = parts_read A P w side who r c u q e
    step_cell c (plain u) (Some m) e q = parts_none A P w side who r
    step_cell c (mark x) p e q = one_note (found x c) (found_is c x e)
    step_cell c (desc d) p e q = one_note (met d) (r.rows.descs c d e).opened

    -- a Place, and what it found
    mismatch_now : Acts w side → Prefixes w side → (d : Ref) (e u : ℕ) → w.cell (w.target d e) ≡ plain u
        → u ≢ w.old d e → e < w.size d → w.control d ≡ undecided → IsMismatch w d e w.act_count
    mismatch_now acts prefixes d e u here ne within und =
        let o : IsOpened (w.control d) = λ q. (let t : undecided ≡ unused = sym und ∙ q in cc) in
        let says : u ≡ w.logical w.act_count (w.target d e) = subst (λ (y : Cell). StandsFor w (w.target d e) y (w.logical w.act_count (w.target d e))) here (acts.now (w.target d e)) in
        record {
          within = within;
          prefix = record {
            within = omega arith;
            low = λ i h p.
                let is = acts.succeeded i h in
                let le = r.rows.last d (w.act i) (at_work w side d r.rows und) p (succeeded_opened _ is) in
                let not : (w.act i).number ≢ d.number = λ q. let t : undecided ≡ succeeded = sym und ∙ (ap w.control (sym (ref_path (w.act i) d p q)) ∙ is) in cc in
                omega arith;
            high = λ i a b. absurd (omega arith);
          };
          acts_before = (prefixes.acts_before d o).within;
          differs = λ q. ne (says ∙ q);
        }

    step_place_plain : (d : Ref) (e u : ℕ) → IsOpened (w.control d) → e < w.size d → (side who).unsettled ≡ None
        → w.cell (w.target d e) ≡ plain u → (b : Bool) → eqb u (w.old d e) ≡ b
        → Partly A P (cond b (place_world w (next_mark w who) d e) w) (updated side who (cond b
        (placed_noted (side who) (next_mark w who) d e (w.target d e))
        (note_side (side who) (mismatch d e w.act_count))))
    step_place_plain d e u o within free here true q =
        let x : Ref = next_mark w who in
        let v : World = place_world w x d e in
        let placed = parts_place A P w side x d e record { next = refl; settled = free; opened = o; within = within; found = here ∙ ap plain (eqb_yes u (w.old d e) q) } r in
        let m = placed.rows.marks (w.target d e) x (updated_here w.cell (w.target d e) (w.target d e) (mark x) refl) in
        let s : Side = place_side (side who) x.number in
        more_note v side who (note_side (note_side s (desc_is x d)) (which_is x e)) (found x (w.target d e)) (m.used, m.here)
        (more_note v side who (note_side s (desc_is x d)) (which_is x e) (m.used, updated_ref_here w.mark_entry x x e refl)
        (more_note v side who s (desc_is x d) (m.used, updated_ref_here w.mark_desc x x d refl) placed))
    step_place_plain d e u o within free here false q = parts_note A P w side who r (mismatch d e w.act_count)
        record { rows = λ i. cc; acts = λ a i. cc; prefixes = λ a p i. (o, λ und. mismatch_now (r.acts a) (r.prefixes a p) d e u here (eqb_not u (w.old d e) q) within und) }

    step_place_desc : (d f : Ref) (e : ℕ) → IsOpened (w.control d) → w.cell (w.target d e) ≡ desc f → (b : Bool)
        → is_ref f d ≡ b
        → Partly A P w (updated side who (cond b (note_side (side who) (installed d e)) (note_side (side who) (met f))))
    step_place_desc d f e o here true q = one_note (installed d e) (o, λ und. here ∙ ap desc (is_ref_yes f d q))
    step_place_desc d f e o here false q = one_note (met f) (r.rows.descs (w.target d e) f here).opened

    step_place : (d : Ref) (e : ℕ) (k : Cell) → IsOpened (w.control d) → e < w.size d → (side who).unsettled ≡ None
        → w.cell (w.target d e) ≡ k
        → Partly A P (cond (is_plain k (w.old d e)) (place_world w (next_mark w who) d e) w) (updated side who (place_noted (side who) (next_mark w who) d e (w.target d e) (w.old d e) k w.act_count))
    step_place d e (plain u) o within free here = step_place_plain d e u o within free here (eqb u (w.old d e)) refl
    step_place d e (mark x) o within free here = one_note (found x (w.target d e)) (found_is (w.target d e) x here)
    step_place d e (desc f) o within free here = step_place_desc d f e o here (is_ref f d) refl

    -- an own mark that stands nowhere is settled
    step_settled : (x : Ref) (c : ℕ) → IsUsed w x → w.target (w.mark_desc x) (w.mark_entry x) ≡ c
        → ((j : ℕ) → w.cell j ≢ mark x) → (b : Bool) → (b ≡ true → w.cell c ≡ desc (w.mark_desc x)) → (own : Bool)
        → is_number (side who).unsettled who x ≡ own
        → Partly A P w (updated side who (cond own (settle_noted (side who) (w.mark_desc x) (w.mark_entry x) c b) (side who)))
    step_settled x c u here gone b holds true q =
        let p = is_number_yes (side who).unsettled who x q in
        let settled = parts_settle A P w side who r x c p.0 p.1 here gone in
        by_cond (λ (t : Side). Partly A P w (updated side who t)) b (note_side (settle_side (side who) (w.mark_desc x) c) (installed (w.mark_desc x) (w.mark_entry x))) (settle_side (side who) (w.mark_desc x) c)
        (λ bt. more_note w side who (settle_side (side who) (w.mark_desc x) c) (installed (w.mark_desc x) (w.mark_entry x)) ((r.rows.used x u).0, λ und. ap w.cell here ∙ holds bt) settled)
        (λ bf. settled)
    step_settled x c u here gone b holds false q = parts_none A P w side who r

    -- a Release was made: d does not stand there
    step_paid : (d : Ref) (e : ℕ) → IsDecided (w.control d) → w.cell (w.target d e) ≢ desc d → (own : Bool)
        → is_number (side who).current who d ≡ own
        → Partly A P w (updated side who (cond own (release_noted (paid_side (side who) d (w.target d e)) e (w.size d)) (paid_side (side who) d (w.target d e))))
    step_paid d e dec gone true q =
        let p = is_number_yes (side who).current who d q in
        let t : Side = paid_side (side who) d (w.target d e) in
        let one : Partly A P w (updated side who (release_side t e)) = and_then A P w side who t (release_side t e)
        (λ each same k. subst (λ (z : Side). Partly A P w (updated each who (release_side z e))) same (parts_released A P w each who k d e p.0 (ap (λ (z : Side). z.current) same ∙ p.1) dec gone)) (parts_paid A P w side who r d (w.target d e) gone) in
        by_cond (λ (z : Side). Partly A P w (updated side who z)) (covers (w.size d) (e ∷ t.released)) (close_side (release_side t e)) (release_side t e)
        (λ all. and_then A P w side who (release_side t e) (close_side (release_side t e))
        (λ each same k. subst (λ (z : Side). Partly A P w (updated each who (close_side z))) same (parts_closed A P w each who k d p.0 (ap (λ (z : Side). z.current) same ∙ p.1) dec
        (λ i h. subst (λ (z : Side). In i z.released) (sym same) (covers_in (w.size d) (e ∷ t.released) all i h)))) one)
        (λ some_left. one)
    step_paid d e dec gone false q = parts_paid A P w side who r d (w.target d e) gone

    step_decided : (d : Ref) (k x : Control) → w.control d ≡ k → MayDecide (side who) who d x
        → Partly A P (decided_world w d k x) side
    step_decided d unused x e may = r
    step_decided d undecided unused e may = r
    step_decided d undecided undecided e may = r
    step_decided d undecided succeeded e may =
        let size = r.rows.facts who (size_is d may.0) may.1 refl in
        parts_succeed A P w side d e (λ a i h. ((r.acts a).facts who (installed d i) (may.2 i (subst (λ (n : ℕ). i < n) size.1 h)) refl).1 e) r
    step_decided d undecided withdrawn e may = parts_withdraw A P w side d e r
    step_decided d undecided (failed i by) e may = parts_fail A P w side d i by may.1.0 e (λ a p. ((r.prefixes a p).facts who (mismatch d i may.1.0) may.1.1 refl).1 e) r
    step_decided d succeeded x e may = r
    step_decided d withdrawn x e may = r
    step_decided d (failed i by) x e may = r

  -- the world first, then the side
  stale_after : (w : World) (c : ℕ) (k : Cell) (x : Ref) → k ≢ mark x → ((j : ℕ) → w.cell j ≡ mark x → j ≡ c) → (j : ℕ)
      → (cell_world w c k).cell j ≢ mark x
  stale_after w c k x clean only j e = ⊎_elim (λ p. clean (sym p.1 ∙ e)) (λ p. p.0 (only j (sym p.1 ∙ e))) (updated_at w.cell c j k)

  step_settle : (w : World) (side : ℕ → Side) (who : ℕ) (x : Ref) (c : ℕ) (to b : Bool) → Partly A P w side
      → IsAllowed w side who (settles x c to) → is_mark (w.cell c) x ≡ b
      → Partly A P (cond b (cell_world w c (settled_cell w x to)) w) (updated side who (cond (is_number (side who).unsettled who x) (settle_noted (side who) (w.mark_desc x) (w.mark_entry x) c (to && b)) (side who)))
  step_settle w side who x c true true r may e =
      let here = is_mark_yes (w.cell c) x e in
      let f = r.rows.facts who (found x c) may.0 refl in
      let only : (j : ℕ) → w.cell j ≡ mark x → j ≡ c = λ j q. sym (r.rows.marks j x q).here ∙ f.1 in
      let v : World = cell_world w c (desc (w.mark_desc x)) in
      step_settled v side who (parts_promote A P w side c x here (λ a. ((r.acts a).facts who (may_promote x c) may.1 refl).1 here) r) x c f.0 f.1 (stale_after w c (desc (w.mark_desc x)) x (λ q. cc) only) true (λ q. updated_here w.cell c c (desc (w.mark_desc x)) refl) (is_number (side who).unsettled who x) refl
  step_settle w side who x c true false r may e =
      let f = r.rows.facts who (found x c) may.0 refl in
      step_settled w side who r x c f.0 f.1 (λ j q. is_mark_not (w.cell c) x e (ap w.cell (sym f.1 ∙ (r.rows.marks j x q).here) ∙ q)) false (λ q. absurd (true≢false (sym q))) (is_number (side who).unsettled who x) refl
  step_settle w side who x c false true r may e =
      let here = is_mark_yes (w.cell c) x e in
      let f = r.rows.facts who (found x c) may.0 refl in
      let only : (j : ℕ) → w.cell j ≡ mark x → j ≡ c = λ j q. sym (r.rows.marks j x q).here ∙ f.1 in
      let k : Cell = plain (w.old (w.mark_desc x) (w.mark_entry x)) in
      step_settled (cell_world w c k) side who (parts_demote A P w side c x here r) x c f.0 f.1 (stale_after w c k x (λ q. cc) only) false (λ q. absurd (true≢false (sym q))) (is_number (side who).unsettled who x) refl
  step_settle w side who x c false false r may e =
      let f = r.rows.facts who (found x c) may.0 refl in
      step_settled w side who r x c f.0 f.1 (λ j q. is_mark_not (w.cell c) x e (ap w.cell (sym f.1 ∙ (r.rows.marks j x q).here) ∙ q)) false (λ q. absurd (true≢false (sym q))) (is_number (side who).unsettled who x) refl

  step_release : (w : World) (side : ℕ → Side) (who : ℕ) (d : Ref) (e : ℕ) (b : Bool) → Partly A P w side
      → IsAllowed w side who (releases d e) → is_desc (w.cell (w.target d e)) d ≡ b
      → Partly A P (cond b (cell_world w (w.target d e) (released_cell w d e)) w) (updated side who (cond (is_number (side who).current who d) (release_noted (paid_side (side who) d (w.target d e)) e (w.size d)) (paid_side (side who) d (w.target d e))))
  step_release w side who d e b r may q =
      let size = r.rows.facts who (size_is d may.0.size) may.0.known refl in
      let within : e < w.size d = subst (λ (n : ℕ). e < n) (sym size.1) may.0.within in
      let dec : IsDecided (w.control d) = known_over w side who d r.rows may.1 in
      let k : Cell = released_cell w d e in
      by_cond (λ (v : World). Partly A P v (updated side who (cond (is_number (side who).current who d) (release_noted (paid_side (side who) d (w.target d e)) e (w.size d)) (paid_side (side who) d (w.target d e))))) b (cell_world w (w.target d e) k) w
      (λ bt. step_paid (cell_world w (w.target d e) k) side who (parts_release A P w side d e (is_desc_yes _ d (q ∙ bt)) within dec r) d e dec
      (λ h. let t : k ≡ desc d = sym (updated_here w.cell (w.target d e) (w.target d e) k refl) ∙ h in cc) (is_number (side who).current who d) refl)
      (λ bf. step_paid w side who r d e dec (is_desc_not _ d (q ∙ bf)) (is_number (side who).current who d) refl)

  -- what the own row says is noted
  step_entries : (w : World) (side : ℕ → Side) (who : ℕ) (d : Ref) (p : Entries) (s : Side)
      → Partly A P (open_world w d p) (updated side who s) → (n : ℕ)
      → Partly A P (open_world w d p) (updated side who (note_entries s d p n))
  step_entries w side who d p s r zero =
      let o : updated_ref w.control d undecided d ≢ unused = λ q. let t : undecided ≡ unused = sym (updated_ref_here w.control d d undecided refl) ∙ q in cc in
      more_note (open_world w d p) side who (note_side s (known d)) (size_is d p.size) (o, updated_ref_here w.size d d p.size refl) (more_note (open_world w d p) side who s (known d) o r)
  step_entries w side who d p s r (suc n) =
      let o : updated_ref w.control d undecided d ≢ unused = λ q. let t : undecided ≡ unused = sym (updated_ref_here w.control d d undecided refl) ∙ q in cc in
      let of_entry : (f : Ref → ℕ → ℕ) (g : ℕ → ℕ) → updated_ref f d g d n ≡ g n = λ f g. ap (λ (h : ℕ → ℕ). h n) (updated_ref_here f d d g refl) in
      let v : World = open_world w d p in
      let before : Side = note_entries s d p n in
      let target : Side = note_side before (target_is d n (p.target n)) in
      more_note v side who (note_side target (old_is d n (p.old n))) (new_is d n (p.new n)) (o, of_entry w.new p.new)
      (more_note v side who target (old_is d n (p.old n)) (o, of_entry w.old p.old)
      (more_note v side who before (target_is d n (p.target n)) (o, of_entry w.target p.target) (step_entries w side who d p s r n)))

  pub steps_keep : (w : World) (side : ℕ → Side) (who : ℕ) (m : Move) → Partly A P w side → IsAllowed w side who m
      → Partly A P (world_after w who m) (sides_after w side who m)
  steps_keep w side who (opens p) r may =
      let d : Ref = next_desc w who in
      step_entries w side who d p (open_side (side who) (w.next_number who)) (parts_open A P w side d p record { next = refl; can = may } r) p.size
  steps_keep w side who (reads_cell c) r may = step_cell w side who r c (w.cell c) (side who).current refl refl
  steps_keep w side who (learns ns) r may = step_notes w side who r ns (λ n i. (may n i).1)
  steps_keep w side who (reads_control d) r may = step_control w side who r d (w.control d) refl
  steps_keep w side who (reads_mark_control x c) r may = step_mark w side who r x c (w.control (w.mark_desc x)) (r.rows.facts who (found x c) may refl).0 refl (control_noted (side who) (w.mark_desc x) (w.control (w.mark_desc x))) (step_control w side who r (w.mark_desc x) (w.control (w.mark_desc x)) refl)
  steps_keep w side who (places d e) r may =
      let size = r.rows.facts who (size_is d may.0.size) may.0.known refl in
      step_place w side who r d e (w.cell (w.target d e)) size.0 (subst (λ (n : ℕ). e < n) (sym size.1) may.0.within) may.1 refl
  steps_keep w side who (settles x c to) r may = step_settle w side who x c to (is_mark (w.cell c) x) r may refl
  steps_keep w side who (decides d x) r may =
      let v : World = world_after w who (decides d x) in
      step_control v side who (step_decided w side who r d (w.control d) x refl may.1) d (v.control d) refl
  steps_keep w side who (releases d e) r may = step_release w side who d e (is_desc (w.cell (w.target d e)) d) r may refl
  steps_keep w side who claims r may = parts_claimed A P (claim_world w) side who (parts_claim A P w side r) w.counter
