-- Rows, owing and facts are kept.
use Rattle.std.proofs.Common.{◌≡◌, ◌≢◌, ℕ, ◌<◌, sym, refl, ap, ◌∙◌, subst, inl, inr, ⊎_elim, Some}
use Rattle.rh_world.specs.World.{Cell, Control, In, IsDecided, IsOpened, IsUsed, Ref, World, updated}
use Rattle.rh_world.specs.World.Cell.{desc, mark, plain}
use Rattle.rh_world.specs.World.Control.{succeeded, undecided, unused}
use Rattle.rh_world.specs.Later.{Steady}
use Rattle.rh_world.specs.Sides.{Debt, Side}
use Rattle.rh_world.specs.Rows.{ByDebt, ByOwner, ByPlacer, DescInCell, Opened, OwesEntry, Owing, Rows}
use Rattle.rh_world.specs.Moves.{cell_world, claim_world, decide_world, succeed_world}
use Rattle.rh_world.proofs.Laters.{steady_cell, steady_claim, steady_decide, steady_succeed}
use Rattle.rh_world.proofs.Stays.{rows_fact_stays}
use Rattle.rh_world.proofs.Updated.{updated_at, updated_ref_at}

module _ (side : ℕ → Side) (who : ℕ) (s : Side) where
  pub by_side : (P : ℕ → Side → Type 0) → P who s → ((u : ℕ) → u ≢ who → P u (side u)) → (u : ℕ)
      → P u (updated side who s u)
  by_side P here other u = ⊎_elim
      (λ p. subst (P u) (sym p.1) (subst (λ (x : ℕ). P x s) (sym p.0) here))
      (λ p. subst (P u) (sym p.1) (other u p.0)) (updated_at side who u s)

  pub field_same : {B : Type 0} (g : Side → B) → g s ≡ g (side who) → (u : ℕ) → g (updated side who s u) ≡ g (side u)
  field_same g e u = by_side (λ (x : ℕ) (t : Side). g t ≡ g (side x)) e (λ x n. refl) u

-- what is owed by an owner stays so where its Side has the same open and released
pub owner_same : (side : ℕ → Side) (who : ℕ) (s : Side) → s.current ≡ (side who).current → s.released ≡ (side who).released
    → (d : Ref) (e : ℕ) → ByOwner side d e → ByOwner (updated side who s) d e
owner_same side who s current released d e b = record {
  current = field_same side who s (λ (t : Side). t.current) current d.worker ∙ b.current;
  unreleased = λ r. b.unreleased (subst (In e) (field_same side who s (λ (t : Side). t.released) released d.worker) r);
}

module _ (w v : World) (side side' : ℕ → Side) (l : Steady w v) where
  pub owed_stay : Owing w side → ((u p : ℕ) → (side u).current ≡ Some p → (side' u).current ≡ Some p)
      → ((u p e : ℕ) → (side u).current ≡ Some p → In e (side' u).released → In e (side u).released)
      → ((u m : ℕ) → (side u).unsettled ≡ Some m → (side' u).unsettled ≡ Some m)
      → ((u : ℕ) (q : Debt) → In q (side u).debts → In q (side' u).debts)
      → (d : Ref) (e c : ℕ) → OwesEntry w side d e c → OwesEntry v side' d e c
  owed_stay owing current released unsettled debts d e c o = ⊎_elim
      (λ (b : ByOwner side d e). inl record { current = current d.worker d.number b.current; unreleased = λ r. b.unreleased (released d.worker d.number e b.current r) })
      (λ p. inr (⊎_elim
      (λ (b : ByPlacer w side d e). let h = owing.unsettled b.who b.unsettled in inl record { who = b.who; unsettled = unsettled b.who.worker b.who.number b.unsettled; mark_desc = l.mark_desc b.who h ∙ b.mark_desc; mark_entry = l.mark_entry b.who h ∙ b.mark_entry })
      (λ (b : ByDebt side d c). inr record { who = b.who; debt = debts b.who record { desc = d; cell = c } b.debt }) p)) o

  pub desc_stays : (c : ℕ) (d : Ref) (t : DescInCell w side c d) → OwesEntry v side' d t.entry c → DescInCell v side' c d
  desc_stays c d t o = record {
    opened = l.opened d t.opened;
    entry = t.entry;
    within = subst (λ (n : ℕ). t.entry < n) (sym (l.size d t.opened)) t.within;
    here = l.target d t.entry t.opened ∙ t.here;
    owed = o;
  }

  pub opened_stay : Opened w side → ((d : Ref) → IsOpened (v.control d) → IsOpened (w.control d))
      → ((u : ℕ) → v.next_number u ≡ w.next_number u) → ((u : ℕ) → (side' u).current ≡ (side u).current)
      → ((u : ℕ) → (side' u).released ≡ (side u).released) → Opened v side'
  opened_stay descriptors back numbers current released = record {
    below = λ d h. subst (λ (n : ℕ). d.number < n) (sym (numbers d.worker)) (descriptors.below d (back d h));
    rising = λ d e f h a b. let o = back d h in
        subst (λ (x : ℕ × ℕ). x.0 < x.1) (λ i. (sym (l.target d e o) i, sym (l.target d f o) i)) (descriptors.rising d e f o a (subst (λ (n : ℕ). f < n) (l.size d o) b));
    state = λ d h. ⊎_elim (λ x. inl (subst IsDecided (sym (l.decided d x)) x)) (λ x. inr (current d.worker ∙ x)) (descriptors.state d (back d h));
    current = λ d h. l.opened d (descriptors.current d (sym (current d.worker) ∙ h));
    last = λ d f h a b. descriptors.last d f (sym (current d.worker) ∙ h) a (back f b);
    released = λ d e h r.
        let x = descriptors.released d e (sym (current d.worker) ∙ h) (subst (In e) (released d.worker) r) in
        subst IsDecided (sym (l.decided d x)) x;
  }

-- a cell alone changes, to no mark
pub rows_cell : (w : World) (side : ℕ → Side) (c : ℕ) (k : Cell) → Steady w (cell_world w c k)
    → ((x : Ref) → k ≢ mark x) → ((d : Ref) → k ≡ desc d → DescInCell w side c d) → Rows w side
    → Rows (cell_world w c k) side
rows_cell w side c k l clean new rows =
    let v : World = cell_world w c k in
    let owed : (d : Ref) (e j : ℕ) → OwesEntry w side d e j → OwesEntry v side d e j = owed_stay w v side side l rows.owing (λ u p q. q) (λ u p e q r. r) (λ u m q. q) (λ u q h. h) in
    record {
      descriptors = opened_stay w v side side l rows.descriptors (λ d h. h) (λ u. refl) (λ u. refl) (λ u. refl);
      owing = record {
        used = rows.used;
        unsettled = rows.unsettled;
        newest = rows.newest;
        marks = λ j x e. ⊎_elim (λ p. absurd (clean x (sym p.1 ∙ e))) (λ p. let m = rows.marks j x (sym p.1 ∙ e) in record { used = m.used; here = m.here; owed = m.owed }) (updated_at w.cell c j k);
        descs = λ j d e. ⊎_elim
            (λ p. let t = subst (λ (i : ℕ). DescInCell w side i d) (sym p.0) (new d (sym p.1 ∙ e)) in desc_stays w v side side l j d t (owed d t.entry j t.owed))
            (λ p. let t = rows.descs j d (sym p.1 ∙ e) in desc_stays w v side side l j d t (owed d t.entry j t.owed)) (updated_at w.cell c j k);
      };
      facts = λ u n h p. rows_fact_stays w v side rows l n p (rows.facts u n h p);
    }

pub rows_promote : (w : World) (side : ℕ → Side) (c : ℕ) (x : Ref) → w.cell c ≡ mark x → Rows w side
    → Rows (cell_world w c (desc (w.mark_desc x))) side
rows_promote w side c x e rows =
    let m = rows.marks c x e in
    rows_cell w side c (desc (w.mark_desc x)) (steady_cell w c (desc (w.mark_desc x)) (λ y q. cc) (λ d q. let r : mark x ≡ desc d = sym e ∙ q in cc)) (λ y q. cc)
    (λ d q. let r : w.mark_desc x ≡ d = cc in subst (λ (f : Ref). DescInCell w side c f) r record {
      opened = (rows.used x m.used).0;
      entry = w.mark_entry x;
      within = (rows.used x m.used).1;
      here = m.here;
      owed = inr (inl record { who = x; unsettled = m.owed; mark_desc = refl; mark_entry = refl });
    }) rows

pub rows_demote : (w : World) (side : ℕ → Side) (c : ℕ) (x : Ref) → w.cell c ≡ mark x → Rows w side
    → Rows (cell_world w c (plain (w.old (w.mark_desc x) (w.mark_entry x)))) side
rows_demote w side c x e rows =
    let k : ℕ = w.old (w.mark_desc x) (w.mark_entry x) in
    rows_cell w side c (plain k) (steady_cell w c (plain k) (λ y q. cc) (λ d q. let r : mark x ≡ desc d = sym e ∙ q in cc)) (λ y q. cc) (λ d q. cc) rows

pub rows_release : (w : World) (side : ℕ → Side) (d : Ref) (e n : ℕ) → w.cell (w.target d e) ≡ desc d
    → IsDecided (w.control d) → Rows w side → Rows (cell_world w (w.target d e) (plain n)) side
rows_release w side d e n here dec rows =
    rows_cell w side (w.target d e) (plain n) (steady_cell w (w.target d e) (plain n) (λ y q. cc) (λ f p. let r : desc d ≡ desc f = sym here ∙ p in let t : d ≡ f = cc in subst (λ (x : Ref). IsDecided (w.control x)) t dec)) (λ y q. cc) (λ f q. cc) rows

-- no cell changes, and nothing is opened or placed
rows_frame : (w : World) (side : ℕ → Side) (v : World) → v.cell ≡ w.cell
    → ((f : Ref) → IsOpened (v.control f) → IsOpened (w.control f)) → ((u : ℕ) → v.next_number u ≡ w.next_number u)
    → ((u : ℕ) → v.marks_used u ≡ w.marks_used u) → Steady w v → Rows w side → Rows v side
rows_frame w side v cells back numbers marks l rows =
    let owed : (d : Ref) (e j : ℕ) → OwesEntry w side d e j → OwesEntry v side d e j = owed_stay w v side side l rows.owing (λ u p q. q) (λ u p e q r. r) (λ u m q. q) (λ u q h. h) in
    let same : (j : ℕ) → v.cell j ≡ w.cell j = λ j. ap (λ (f : ℕ → Cell). f j) cells in
    let fewer : (x : Ref) → IsUsed v x → IsUsed w x = λ x h. subst (λ (n : ℕ). x.number < n) (marks x.worker) h in
    record {
      descriptors = opened_stay w v side side l rows.descriptors back numbers (λ u. refl) (λ u. refl);
      owing = record {
        used = λ x h.
            let h' = fewer x h in
            let t = rows.used x h' in
            let o = l.mark_desc x h' in (
              subst (λ (f : Ref). IsOpened (v.control f)) (sym o) (l.opened (w.mark_desc x) t.0),
              subst (λ (y : ℕ × ℕ). y.0 < y.1) (λ i. (sym (l.mark_entry x h') i, sym (ap v.size o ∙ l.size (w.mark_desc x) t.0) i)) t.1,
            );
        unsettled = λ x h. l.marks x (rows.unsettled x h);
        newest = λ x h. rows.newest x h ∙ sym (marks x.worker);
        marks = λ j x e.
            let m = rows.marks j x (sym (same j) ∙ e) in
            record { used = l.marks x m.used; here = ap (λ (f : Ref). v.target f (v.mark_entry x)) (l.mark_desc x m.used) ∙ (ap (λ (n : ℕ). v.target (w.mark_desc x) n) (l.mark_entry x m.used) ∙ (l.target (w.mark_desc x) (w.mark_entry x) (rows.used x m.used).0 ∙ m.here)); owed = m.owed };
        descs = λ j f e. let t = rows.descs j f (sym (same j) ∙ e) in desc_stays w v side side l j f t (owed f t.entry j t.owed);
      };
      facts = λ u n h p. rows_fact_stays w v side rows l n p (rows.facts u n h p);
    }

pub rows_decide : (w : World) (side : ℕ → Side) (d : Ref) (r : Control) → w.control d ≡ undecided → IsDecided r
    → r ≢ succeeded → Rows w side → Rows (decide_world w d r) side
rows_decide w side d r und dec fail rows = rows_frame w side (decide_world w d r) refl
    (λ f h. ⊎_elim (λ p q. let t : undecided ≡ unused = sym und ∙ (ap w.control (sym p.0) ∙ q) in cc) (λ p q. h (p.1 ∙ q)) (updated_ref_at w.control d f r)) (λ u. refl) (λ u. refl) (steady_decide w d r und dec fail) rows

pub rows_succeed : (w : World) (side : ℕ → Side) (d : Ref) → w.control d ≡ undecided → Rows w side
    → Rows (succeed_world w d) side
rows_succeed w side d und rows = rows_frame w side (succeed_world w d) refl
    (λ f h. ⊎_elim (λ p q. let t : undecided ≡ unused = sym und ∙ (ap w.control (sym p.0) ∙ q) in cc) (λ p q. h (p.1 ∙ q)) (updated_ref_at w.control d f succeeded)) (λ u. refl) (λ u. refl) (steady_succeed w d und) rows

pub rows_claim : (w : World) (side : ℕ → Side) → Rows w side → Rows (claim_world w) side
rows_claim w side rows = rows_frame w side (claim_world w) refl (λ f h. h) (λ u. refl) (λ u. refl) (steady_claim w) rows
