-- Each small change keeps the parts of the rule: of the world alone, of one side alone, and the two of both.
use Rattle.std.proofs.Common.{◌≡◌, ◌≢◌, ℕ, ◌<◌, ◌≤◌, List, sym, refl, ap, ◌∙◌, subst, inl, ⊎_elim, arith, Some, None}
use Rattle.rh_world.specs.World.{Cell, Control, HasFailed, In, IsDecided, IsOpened, Ref, World, updated, updated_ref}
use Rattle.rh_world.specs.World.Cell.{desc, mark, plain}
use Rattle.rh_world.specs.World.Control.{failed, succeeded, undecided, unused, withdrawn}
use Rattle.rh_world.specs.Logical.{entry_value}
use Rattle.rh_world.specs.Facts.{HoldsIn, IsMismatch, Fact, part_of}
use Rattle.rh_world.specs.Facts.RulePart.{of_acts, of_prefixes}
use Rattle.rh_world.specs.Later.{Steady}
use Rattle.rh_world.specs.Sides.{Side, claim_side, close_side, forget_side, note_side, open_side, paid_side, place_side, read_side, release_side, settle_side}
use Rattle.rh_world.specs.Rows.{ByOwner, Rows}
use Rattle.rh_world.specs.Prefixes.{Prefixes}
use Rattle.rh_world.specs.Moves.{Entries, cell_world, claim_world, decide_world, open_world, place_world, released_cell, succeed_world}
use Rattle.rh_world.proofs.ActsKept.{acts_claim, acts_decide, acts_demote, acts_open, acts_place, acts_promote, acts_release, acts_side, acts_succeed, same_notes}
use Rattle.rh_world.proofs.Conditions.{OpensNext, PlacesNext}
use Rattle.rh_world.proofs.Laters.{steady_cell, steady_claim, steady_decide, steady_place, steady_succeed}
use Rattle.rh_world.proofs.Partly.{Noted, Partly}
use Rattle.rh_world.proofs.PrefixesKept.{failing, prefixes_fail, prefixes_open, prefixes_read, prefixes_side, prefixes_stay}
use Rattle.rh_world.proofs.RowsKept.{field_same, owner_same, rows_claim, rows_decide, rows_demote, rows_promote, rows_release, rows_succeed}
use Rattle.rh_world.proofs.SidesKept.{owner_closed, owner_released, rows_closed, rows_forget, rows_note, rows_open, rows_paid, rows_place, rows_reads, rows_released, rows_settle}
use Rattle.rh_world.proofs.Stays.{prefixes_fact_stays}
use Rattle.rh_world.proofs.Updated.{some_not_none, updated_at, updated_else, updated_here, updated_ref_at}

-- the world alone changes: nothing is opened, and nothing fails
prefixes_world : (w v : World) (side : ℕ → Side) → Steady w v → Rows w side
    → ((f : Ref) → IsOpened (v.control f) → IsOpened (w.control f))
    → ((d : Ref) (e : ℕ) → HasFailed v d e → HasFailed w d e)
    → ((u : ℕ) → w.next_number u ≤ v.next_number u) → Prefixes w side → Prefixes v side
prefixes_world w v side l rows back failing more p = prefixes_stay w v side side l rows back (λ d e h. inl (failing d e h)) more (λ u. refl) (λ u q h. h)
    (λ u n h q. prefixes_fact_stays w v side rows l n q (p.facts u n h q)) p

prefixes_cell : (w : World) (side : ℕ → Side) (c : ℕ) (k : Cell) → Steady w (cell_world w c k) → Rows w side
    → Prefixes w side → Prefixes (cell_world w c k) side
prefixes_cell w side c k l rows p = prefixes_world w (cell_world w c k) side l rows (λ f h. h) (λ d e h. h) (λ u. omega arith) p

from_mark : (w : World) (c : ℕ) (x : Ref) (k : Cell) → ((y : Ref) → k ≢ mark y) → w.cell c ≡ mark x
    → Steady w (cell_world w c k)
from_mark w c x k clean e = steady_cell w c k clean (λ d q. let r : mark x ≡ desc d = sym e ∙ q in cc)

not_opened_by : (w : World) (d : Ref) (r : Control) → w.control d ≡ undecided → (f : Ref)
    → IsOpened (updated_ref w.control d r f) → IsOpened (w.control f)
not_opened_by w d r und f h = ⊎_elim (λ p q. let t : undecided ≡ unused = sym und ∙ (ap w.control (sym p.0) ∙ q) in cc) (λ p q. h (p.1 ∙ q)) (updated_ref_at w.control d f r)

not_failed_by : (w : World) (d : Ref) (r : Control) → ((e by : ℕ) → r ≢ failed e by) → (f : Ref) (e : ℕ)
    → ((by : ℕ) × (updated_ref w.control d r f ≡ failed e by)) → HasFailed w f e
not_failed_by w d r other f e h = (h.0, ⊎_elim (λ p. absurd (other e h.0 (sym p.1 ∙ h.1))) (λ p. sym p.1 ∙ h.1) (updated_ref_at w.control d f r))

module _ (A P : Type 0) where
  pub parts_promote : (w : World) (side : ℕ → Side) (c : ℕ) (x : Ref) → w.cell c ≡ mark x
      → (A → w.control (w.mark_desc x) ≢ succeeded) → Partly A P w side
      → Partly A P (cell_world w c (desc (w.mark_desc x))) side
  parts_promote w side c x e fails r = record {
    rows = rows_promote w side c x e r.rows;
    acts = λ a. acts_promote w side c x r.rows e (fails a) (r.acts a);
    prefixes = λ a p. prefixes_cell w side c (desc (w.mark_desc x)) (from_mark w c x (desc (w.mark_desc x)) (λ y q. cc) e) r.rows (r.prefixes a p);
  }

  pub parts_demote : (w : World) (side : ℕ → Side) (c : ℕ) (x : Ref) → w.cell c ≡ mark x → Partly A P w side
      → Partly A P (cell_world w c (plain (w.old (w.mark_desc x) (w.mark_entry x)))) side
  parts_demote w side c x e r = record {
    rows = rows_demote w side c x e r.rows;
    acts = λ a. acts_demote w side c x r.rows e (r.acts a);
    prefixes = λ a p. prefixes_cell w side c (plain (w.old (w.mark_desc x) (w.mark_entry x))) (from_mark w c x (plain (w.old (w.mark_desc x) (w.mark_entry x))) (λ y q. cc) e) r.rows (r.prefixes a p);
  }

  pub parts_release : (w : World) (side : ℕ → Side) (d : Ref) (e : ℕ) → w.cell (w.target d e) ≡ desc d → e < w.size d
      → IsDecided (w.control d) → Partly A P w side
      → Partly A P (cell_world w (w.target d e) (released_cell w d e)) side
  parts_release w side d e here within dec r = record {
    rows = rows_release w side d e (entry_value (w.control d) (w.old d e) (w.new d e)) here dec r.rows;
    acts = λ a. acts_release w side d e r.rows here within dec (r.acts a);
    prefixes = λ a p. prefixes_cell w side (w.target d e) (released_cell w d e)
        (steady_cell w (w.target d e) (released_cell w d e) (λ y q. cc) (λ f p. let r : desc d ≡ desc f = sym here ∙ p in let t : d ≡ f = cc in subst (λ (x : Ref). IsDecided (w.control x)) t dec)) r.rows (r.prefixes a p);
  }

  pub parts_withdraw : (w : World) (side : ℕ → Side) (d : Ref) → w.control d ≡ undecided → Partly A P w side
      → Partly A P (decide_world w d withdrawn) side
  parts_withdraw w side d und r = record {
    rows = rows_decide w side d withdrawn und tt (λ q. cc) r.rows;
    acts = λ a. acts_decide w side d withdrawn r.rows und tt (λ q. cc) (r.acts a);
    prefixes = λ a p. prefixes_world w (decide_world w d withdrawn) side (steady_decide w d withdrawn und tt (λ q. cc)) r.rows (not_opened_by w d withdrawn und) (not_failed_by w d withdrawn (λ e by q. cc)) (λ u. omega arith) (r.prefixes a p);
  }

  pub parts_fail : (w : World) (side : ℕ → Side) (d : Ref) (e by n : ℕ) → w.control d ≡ undecided
      → (A → P → IsMismatch w d e n) → Partly A P w side → Partly A P (decide_world w d (failed e by)) side
  parts_fail w side d e by n und m r = record {
    rows = rows_decide w side d (failed e by) und tt (λ q. cc) r.rows;
    acts = λ a. acts_decide w side d (failed e by) r.rows und tt (λ q. cc) (r.acts a);
    prefixes = λ a p. prefixes_fail w side d e by n r.rows und (m a p) (r.prefixes a p);
  }

  pub parts_succeed : (w : World) (side : ℕ → Side) (d : Ref) → w.control d ≡ undecided
      → (A → (e : ℕ) → e < w.size d → w.cell (w.target d e) ≡ desc d) → Partly A P w side
      → Partly A P (succeed_world w d) side
  parts_succeed w side d und all r = record {
    rows = rows_succeed w side d und r.rows;
    acts = λ a. acts_succeed w side d r.rows und (all a) (r.acts a);
    prefixes = λ a p. prefixes_world w (succeed_world w d) side (steady_succeed w d und) r.rows (not_opened_by w d succeeded und) (not_failed_by w d succeeded (λ e by q. cc)) (λ u. omega arith) (r.prefixes a p);
  }

  pub parts_claim : (w : World) (side : ℕ → Side) → Partly A P w side → Partly A P (claim_world w) side
  parts_claim w side r = record {
    rows = rows_claim w side r.rows;
    acts = λ a. acts_claim w side r.rows (r.acts a);
    prefixes = λ a p. prefixes_world w (claim_world w) side (steady_claim w) r.rows (λ f h. h) (λ d e h. h) (λ u. omega arith) (r.prefixes a p);
  }

  -- both change
  pub parts_open : (w : World) (side : ℕ → Side) (d : Ref) (p : Entries) → OpensNext w side d p → Partly A P w side
      → Partly A P (open_world w d p) (updated side d.worker (open_side (side d.worker) d.number))
  parts_open w side d p can r = record {
    rows = rows_open w side d p r.rows can;
    acts = λ a. acts_open w side d p r.rows can (r.acts a);
    prefixes = λ a q. prefixes_open w side d p r.rows (r.acts a) can (r.prefixes a q);
  }

  pub parts_place : (w : World) (side : ℕ → Side) (x d : Ref) (e : ℕ) → PlacesNext w side x d e → Partly A P w side
      → Partly A P (place_world w x d e) (updated side x.worker (place_side (side x.worker) x.number))
  parts_place w side x d e can r =
      let s : Side = place_side (side x.worker) x.number in
      let side' : ℕ → Side = updated side x.worker s in
      let l = steady_place w side x d e r.rows can in
      record {
        rows = rows_place w side x d e r.rows can;
        acts = λ a. acts_place w side x d e r.rows can (r.acts a);
        prefixes = λ a p. prefixes_stay w (place_world w x d e) side side' l r.rows (λ f h. h) (λ f i h. inl h) (λ u. omega arith)
            (field_same side x.worker s (λ (t : Side). t.reads) refl) (λ u q h. sym (field_same side x.worker s (λ (t : Side). t.current) refl u) ∙ h)
            (λ u n h q. prefixes_fact_stays w (place_world w x d e) side r.rows l n q ((r.prefixes a p).facts u n (same_notes side x.worker s refl u n h) q)) (r.prefixes a p);
      }

  -- a side alone, with no fact more
  parts_side : (w : World) (side : ℕ → Side) (who : ℕ) (s : Side)
      → ((d : Ref) (e : ℕ) → e < w.size d → w.cell (w.target d e) ≡ desc d → ByOwner side d e → ByOwner (updated side who s) d e)
      → s.facts ≡ (side who).facts
      → s.reads ≡ (side who).reads → ((p : ℕ) → s.current ≡ Some p → (side who).current ≡ Some p)
      → Rows w (updated side who s) → Partly A P w side → Partly A P w (updated side who s)
  parts_side w side who s owners facts reads current rows r =
      let same : (n : Fact) → In n s.facts → In n (side who).facts = λ n h. subst (λ (z : List Fact). In n z) facts h in
      record {
        rows = rows;
        acts = λ a. acts_side w side who s owners (λ n h. (r.acts a).facts who n (same n h)) (r.acts a);
        prefixes = λ a p. prefixes_side w side who s r.rows reads current (λ n h. (r.prefixes a p).facts who n (same n h)) (r.prefixes a p);
      }

  module _ (w : World) (side : ℕ → Side) (who : ℕ) (r : Partly A P w side) where
    pub parts_note : (n : Fact) → Noted A P w n → Partly A P w (updated side who (note_side (side who) n))
    parts_note n t =
        let more : (Q : Fact → Type 0) → Q n → ((m : Fact) → In m (side who).facts → Q m) → (m : Fact) → In m (note_side (side who) n).facts → Q m =
        λ Q new old m h. ⊎_elim (λ (e : m ≡ n). subst Q (sym e) new) (λ i. old m i) h in
        record {
          rows = rows_note w side who r.rows n t.rows;
          acts = λ a. acts_side w side who (note_side (side who) n) (λ d e lt here. owner_same side who (note_side (side who) n) refl refl d e) (more (λ m. part_of m ≡ of_acts → HoldsIn w m) (t.acts a) ((r.acts a).facts who)) (r.acts a);
          prefixes = λ a p. prefixes_side w side who (note_side (side who) n) r.rows refl (λ q h. h) (more (λ m. part_of m ≡ of_prefixes → HoldsIn w m) (t.prefixes a p) ((r.prefixes a p).facts who)) (r.prefixes a p);
        }

    pub parts_settle : (x : Ref) (c : ℕ) → x.worker ≡ who → (side who).unsettled ≡ Some x.number
        → w.target (w.mark_desc x) (w.mark_entry x) ≡ c → ((j : ℕ) → w.cell j ≢ mark x)
        → Partly A P w (updated side who (settle_side (side who) (w.mark_desc x) c))
    parts_settle x c own open_mark here gone = parts_side w side who (settle_side (side who) (w.mark_desc x) c) (λ f i lt h. owner_same side who (settle_side (side who) (w.mark_desc x) c) refl refl f i) refl refl (λ p h. h) (rows_settle w side who r.rows x c own open_mark here gone) r

    pub parts_forget : (d : Ref) → w.control d ≡ undecided → Partly A P w (updated side who (forget_side (side who) d))
    parts_forget d und = parts_side w side who (forget_side (side who) d) (λ f i lt h. owner_same side who (forget_side (side who) d) refl refl f i) refl refl (λ p h. h) (rows_forget w side who r.rows d und) r

    pub parts_paid : (d : Ref) (c : ℕ) → w.cell c ≢ desc d → Partly A P w (updated side who (paid_side (side who) d c))
    parts_paid d c gone = parts_side w side who (paid_side (side who) d c) (λ f i lt h. owner_same side who (paid_side (side who) d c) refl refl f i) refl refl (λ p h. h) (rows_paid w side who r.rows d c gone) r

    pub parts_released : (d : Ref) (e : ℕ) → d.worker ≡ who → (side who).current ≡ Some d.number
        → IsDecided (w.control d) → w.cell (w.target d e) ≢ desc d
        → Partly A P w (updated side who (release_side (side who) e))
    parts_released d e own here dec gone = parts_side w side who (release_side (side who) e) (λ f i lt h. owner_released w side who d e own here gone f i h) refl refl (λ p h. h) (rows_released w side who r.rows d e own here dec gone) r

    pub parts_closed : (d : Ref) → d.worker ≡ who → (side who).current ≡ Some d.number → IsDecided (w.control d)
        → ((e : ℕ) → e < w.size d → In e (side who).released)
        → Partly A P w (updated side who (close_side (side who)))
    parts_closed d own here dec all = parts_side w side who (close_side (side who)) (λ f i lt h. owner_closed w side who d own here all f i lt) refl refl (λ p h. absurd (some_not_none p (sym h))) (rows_closed w side who r.rows d own here dec all) r

    pub parts_claimed : (n : ℕ) → Partly A P w (updated side who (claim_side (side who) n))
    parts_claimed n = parts_side w side who (claim_side (side who) n) (λ f i lt h. owner_same side who (claim_side (side who) n) refl refl f i) refl refl (λ p h. h) (rows_reads w side who r.rows (side who).reads (claim_side (side who) n).claims) r

    pub parts_read : (c u : ℕ) → (side who).current ≡ None → w.cell c ≡ plain u
        → Partly A P w (updated side who (read_side (side who) c u w.act_count (w.next_number who)))
    parts_read c u closed here = record {
      rows = rows_reads w side who r.rows (read_side (side who) c u w.act_count (w.next_number who)).reads (side who).claims;
      acts = λ a. acts_side w side who (read_side (side who) c u w.act_count (w.next_number who)) (λ d e lt f. owner_same side who (read_side (side who) c u w.act_count (w.next_number who)) refl refl d e) ((r.acts a).facts who) (r.acts a);
      prefixes = λ a p. prefixes_read w side who c u r.rows (r.acts a) closed here (r.prefixes a p);
    }

    pub parts_none : Partly A P w (updated side who (side who))
    parts_none =
        let same : (u : ℕ) → side u ≡ updated side who (side who) u = λ u. ⊎_elim (λ p. ap side p.0 ∙ sym p.1) (λ p. sym p.1) (updated_at side who u (side who)) in
        subst (λ (f : ℕ → Side). Partly A P w f) (λ i u. same u i) r

  -- one change of a side after another
  pub and_then : (w : World) (side : ℕ → Side) (who : ℕ) (s t : Side)
      → ((each : ℕ → Side) → each who ≡ s → Partly A P w each → Partly A P w (updated each who t))
      → Partly A P w (updated side who s) → Partly A P w (updated side who t)
  and_then w side who s t step r = subst (λ (f : ℕ → Side). Partly A P w f)
      (λ i u. (⊎_elim (λ p. p.1 ∙ sym (updated_here side who u t p.0)) (λ p. p.1 ∙ (updated_else side who u s p.0 ∙ sym (updated_else side who u t p.0))) (updated_at (updated side who s) who u t)) i)
      (step (updated side who s) (updated_here side who who s refl) r)
