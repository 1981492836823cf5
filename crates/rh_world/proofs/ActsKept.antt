-- The acts part is kept: one kind of step changes what cells stand for.
use Rattle.std.proofs.Common.{◌≡◌, ◌≢◌, ℕ, zero, suc, ◌<◌, ◌⊎◌, Bool, cond, List, sym, refl, ap, ◌∙◌, subst, inl, inr, ⊎_elim, arith, eq-eqb, ne_eqb, Some}
use native.Mathlib.Decide.{dec_lt}
use Rattle.rh_world.specs.World.{Cell, Control, In, IsDecided, IsOpened, Ref, World, updated, updated_ref}
use Rattle.rh_world.specs.World.Cell.{desc, mark, plain}
use Rattle.rh_world.specs.World.Control.{failed, succeeded, undecided, unused}
use Rattle.rh_world.specs.Logical.{EntryStandsFor, IsLogical, StandsFor, Takes, changed_by, entry_value}
use Rattle.rh_world.specs.Facts.{HoldsIn, Fact, part_of}
use Rattle.rh_world.specs.Facts.RulePart.{of_acts}
use Rattle.rh_world.specs.Later.{Later}
use Rattle.rh_world.specs.Sides.{Side, open_side, place_side}
use Rattle.rh_world.specs.Rows.{ByOwner, Rows}
use Rattle.rh_world.specs.Acts.{Acts}
use Rattle.rh_world.specs.Moves.{Entries, cell_world, claim_world, decide_world, open_world, place_world, succeed_world}
use Rattle.rh_world.proofs.Conditions.{OpensNext, PlacesNext}
use Rattle.rh_world.proofs.Laters.{later_cell, later_claim, later_decide, later_open, later_place, later_succeed}
use Rattle.rh_world.proofs.RowsKept.{by_side, field_same, owner_same}
use Rattle.rh_world.proofs.Stays.{acts_fact_stays}
use Rattle.rh_world.proofs.Updated.{decided_opened, ref_path, same_nat, some_not_none, undecided_open, updated_at, updated_else, updated_here, updated_ref_at, updated_ref_here}

pub is_succeeded : (k : Control) → (k ≡ succeeded) ⊎ (k ≢ succeeded)
is_succeeded succeeded = inl refl
is_succeeded (failed e by) = inr (λ e. cc)
is_succeeded _ = inr (λ e. cc)

pub chosen_old : (k : Control) (o n : ℕ) → k ≢ succeeded → entry_value k o n ≡ o
chosen_old succeeded o n h = absurd (h refl)
chosen_old _ o n h = refl

chosen_same : (k j : Control) (o n : ℕ) → (k ≡ succeeded → j ≡ succeeded) → (j ≡ succeeded → k ≡ succeeded)
    → entry_value j o n ≡ entry_value k o n
chosen_same k j o n f g = ⊎_elim
    (λ p. ap (λ (c : Control). entry_value c o n) (f p) ∙ ap (λ (c : Control). entry_value c o n) (sym p))
    (λ p. chosen_old j o n (λ q. p (g q)) ∙ sym (chosen_old k o n p)) (is_succeeded k)

-- of the entries of an opened descriptor at most one has a given cell
pub one_entry : (w : World) (side : ℕ → Side) (d : Ref) (e f : ℕ) → Rows w side → IsOpened (w.control d)
    → e < w.size d → f < w.size d → w.target d e ≡ w.target d f → e ≡ f
one_entry w side d e f rows o el fl same = elim (dec_lt e f) [
  | yes h ↦ (let r = rows.rising d e f o h fl in absurd (omega arith))
  | no h ↦ elim (dec_lt f e) [
    | yes g ↦ (let r = rows.rising d f e o g el in absurd (omega arith))
    | no g ↦ omega arith
  ]
]

pub succeeded_opened : (k : Control) → k ≡ succeeded → k ≢ unused
succeeded_opened k e u = let r : succeeded ≡ unused = sym e ∙ u in cc

module _ (w v : World) (l : Later w v) where
  pub takes_stay : (d : Ref) (f g f' g' : ℕ → ℕ) → IsOpened (w.control d) → ((c : ℕ) → f' c ≡ f c)
      → ((c : ℕ) → g' c ≡ g c) → Takes w d f g → Takes v d f' g'
  takes_stay d f g f' g' o fs gs m = record {
    olds = λ e h. ap f' (l.target d e o) ∙ (fs (w.target d e) ∙ (m.olds e (subst (λ (n : ℕ). e < n) (l.size d o) h) ∙ sym (l.old d e o)));
    news = λ e h. ap g' (l.target d e o) ∙ (gs (w.target d e) ∙ (m.news e (subst (λ (n : ℕ). e < n) (l.size d o) h) ∙ sym (l.new d e o)));
    rest = λ c out. gs c ∙ (m.rest c (λ e h q. out e (subst (λ (n : ℕ). e < n) (sym (l.size d o)) h) (l.target d e o ∙ q)) ∙ sym (fs c));
  }

  entry_stays : (d : Ref) (c u : ℕ) → IsOpened (w.control d) → (v.control d ≡ succeeded → w.control d ≡ succeeded)
      → EntryStandsFor w d c u → EntryStandsFor v d c u
  entry_stays d c u o no_new s = record {
    entry = s.entry;
    within = subst (λ (n : ℕ). s.entry < n) (sym (l.size d o)) s.within;
    here = l.target d s.entry o ∙ s.here;
    value = ap (λ (x : ℕ). entry_value (v.control d) x (v.new d s.entry)) (l.old d s.entry o)
        ∙ (ap (λ (x : ℕ). entry_value (v.control d) (w.old d s.entry) x) (l.new d s.entry o)
        ∙ (chosen_same (w.control d) (v.control d) (w.old d s.entry) (w.new d s.entry) (λ q. l.decided d (subst IsDecided (sym q) tt) ∙ q) no_new ∙ s.value));
  }

  -- what stood in a cell and stands there still stands for what it stood for
  pub stands_for_stay : (side : ℕ → Side) (c u : ℕ) (k : Cell) → Rows w side → w.cell c ≡ k
      → ((d : Ref) → k ≡ desc d → v.control d ≡ succeeded → w.control d ≡ succeeded) → StandsFor w c k u
      → StandsFor v c k u
  stands_for_stay side c u (plain x) rows e no_new s = s
  stands_for_stay side c u (mark x) rows e no_new s =
      let m = rows.marks c x e in
      ap (λ (f : Ref). v.old f (v.mark_entry x)) (l.mark_desc x m.used) ∙ (ap (λ (n : ℕ). v.old (w.mark_desc x) n) (l.mark_entry x m.used) ∙ (l.old (w.mark_desc x) (w.mark_entry x) (rows.used x m.used).0 ∙ s))
  stands_for_stay side c u (desc d) rows e no_new s = entry_stays d c u (rows.descs c d e).opened (no_new d refl) s

  pub acts_stay : (side side' : ℕ → Side) → Rows w side
      → ((u : ℕ) (n : Fact) → In n (side' u).facts → In n (side u).facts) → v.act_count ≡ w.act_count
      → ((d : Ref) → v.control d ≡ succeeded → w.control d ≡ succeeded)
      → ((c : ℕ) → IsLogical v c (w.logical w.act_count c)) → ((d : Ref) (e : ℕ) → ByOwner side d e → ByOwner side' d e)
      → Acts w side → Acts v side'
  acts_stay side side' rows fewer same no_new now owners a =
      let old : (i : ℕ) → i < v.act_count → i < w.act_count = λ i h. omega arith in
      record {
        made = λ d q. let m = a.made d (no_new d q) in let h : m.0 < w.act_count = m.1 in (m.0, omega arith, l.act m.0 h ∙ m.2);
        succeeded = λ i h. let s = a.succeeded i (old i h) in ap v.control (l.act i (old i h)) ∙ (l.decided (w.act i) (subst IsDecided (sym s) tt) ∙ s);
        ordered = λ i j h k s.
            let p = l.act i (old i (omega arith)) in
            let q = l.act j (old j k) in
            let r = a.ordered i j h (old j k) (ap (λ (x : Ref). x.worker) (sym p) ∙ (s ∙ ap (λ (x : Ref). x.worker) q)) in
            subst (λ (x : ℕ × ℕ). x.0 < x.1) (λ t. ((sym p t).number, (sym q t).number)) r;
        takes = λ i h.
            let k = old i h in
            subst (λ (x : Ref). Takes v x (v.logical i) (v.logical (suc i))) (sym (l.act i k))
            (takes_stay (w.act i) (w.logical i) (w.logical (suc i)) (v.logical i) (v.logical (suc i)) (succeeded_opened _ (a.succeeded i k)) (λ c. l.logical i c (omega arith)) (λ c. l.logical (suc i) c (omega arith)) (a.takes i k));
        now = λ c. subst (λ (u : ℕ). IsLogical v c u) (sym (ap (λ (n : ℕ). v.logical n c) same ∙ l.logical w.act_count c (omega arith))) (now c);
        standing = λ c d here s.
            let before : w.control d ≡ succeeded = no_new d s in
            let o = succeeded_opened _ before in
            let t = a.standing c d (⊎_elim (λ stood. stood) (λ fails. absurd (fails s)) (l.came c d o here)) before in
            record { entry = t.entry; within = subst (λ (n : ℕ). t.entry < n) (sym (l.size d o)) t.within; here = l.target d t.entry o ∙ t.here; owed = owners d t.entry t.owed };
        facts = λ u n h p. acts_fact_stays w v side rows l n p (a.facts u n (fewer u n h) p);
      }

pub same_notes : (side : ℕ → Side) (who : ℕ) (s : Side) → s.facts ≡ (side who).facts → (u : ℕ) (n : Fact)
    → In n (updated side who s u).facts → In n (side u).facts
same_notes side who s e u n h = subst (λ (z : List Fact). In n z) (field_same side who s (λ (t : Side). t.facts) e u) h

-- a side alone changes
pub acts_side : (w : World) (side : ℕ → Side) (who : ℕ) (s : Side)
    → ((d : Ref) (e : ℕ) → e < w.size d → w.cell (w.target d e) ≡ desc d → ByOwner side d e → ByOwner (updated side who s) d e)
    → ((n : Fact) → In n s.facts → part_of n ≡ of_acts → HoldsIn w n) → Acts w side → Acts w (updated side who s)
acts_side w side who s owners facts a = record {
  made = a.made;
  succeeded = a.succeeded;
  ordered = a.ordered;
  takes = a.takes;
  now = a.now;
  standing = λ c d here is.
      let t = a.standing c d here is in
      record { entry = t.entry; within = t.within; here = t.here; owed = owners d t.entry t.within (ap w.cell t.here ∙ here) t.owed };
  facts = by_side side who s (λ (u : ℕ) (t : Side). (n : Fact) → In n t.facts → part_of n ≡ of_acts → HoldsIn w n) facts (λ u n. a.facts u);
}

-- a cell alone changes, and stands for what it stood for
pub acts_cell : (w : World) (side : ℕ → Side) (c : ℕ) (k : Cell) → Rows w side → Later w (cell_world w c k)
    → StandsFor w c k (w.logical w.act_count c) → Acts w side → Acts (cell_world w c k) side
acts_cell w side c k rows l says a = acts_stay w (cell_world w c k) l side side rows (λ u n h. h) refl (λ d q. q)
    (λ j. ⊎_elim
    (λ p. subst (λ (x : Cell). StandsFor (cell_world w c k) j x (w.logical w.act_count j)) (sym p.1)
    (subst (λ (i : ℕ). StandsFor (cell_world w c k) i k (w.logical w.act_count i)) (sym p.0) (again k says)))
    (λ p. subst (λ (x : Cell). StandsFor (cell_world w c k) j x (w.logical w.act_count j)) (sym p.1)
    (stands_for_stay w (cell_world w c k) l side j (w.logical w.act_count j) (w.cell j) rows refl (λ d e q. q) (a.now j)))
    (updated_at w.cell c j k)) (λ d e b. b) a
  where
    again : (x : Cell) → StandsFor w c x (w.logical w.act_count c)
        → StandsFor (cell_world w c k) c x (w.logical w.act_count c)
    again (plain y) s = s
    again (mark y) s = s
    again (desc d) s = record { entry = s.entry; within = s.within; here = s.here; value = s.value }

pub acts_promote : (w : World) (side : ℕ → Side) (c : ℕ) (x : Ref) → Rows w side → w.cell c ≡ mark x
    → w.control (w.mark_desc x) ≢ succeeded → Acts w side → Acts (cell_world w c (desc (w.mark_desc x))) side
acts_promote w side c x rows e fails a =
    let m = rows.marks c x e in
    let s : StandsFor w c (mark x) (w.logical w.act_count c) = subst (λ (k : Cell). StandsFor w c k (w.logical w.act_count c)) e (a.now c) in
    acts_cell w side c (desc (w.mark_desc x)) rows (later_cell w c (desc (w.mark_desc x)) (λ y q. cc) (λ d q. let r : mark x ≡ desc d = sym e ∙ q in cc)
    (λ d q t. let r : w.mark_desc x ≡ d = cc in fails (ap w.control r ∙ t)))
    record { entry = w.mark_entry x; within = (rows.used x m.used).1; here = m.here; value = chosen_old _ _ _ fails ∙ s } a

pub acts_demote : (w : World) (side : ℕ → Side) (c : ℕ) (x : Ref) → Rows w side → w.cell c ≡ mark x → Acts w side
    → Acts (cell_world w c (plain (w.old (w.mark_desc x) (w.mark_entry x)))) side
acts_demote w side c x rows e a =
    let s : StandsFor w c (mark x) (w.logical w.act_count c) = subst (λ (k : Cell). StandsFor w c k (w.logical w.act_count c)) e (a.now c) in
    acts_cell w side c (plain (w.old (w.mark_desc x) (w.mark_entry x))) rows (later_cell w c (plain (w.old (w.mark_desc x) (w.mark_entry x))) (λ y q. cc) (λ d q. let r : mark x ≡ desc d = sym e ∙ q in cc) (λ d q t. cc)) s a

pub acts_release : (w : World) (side : ℕ → Side) (d : Ref) (e : ℕ) → Rows w side → w.cell (w.target d e) ≡ desc d
    → e < w.size d → IsDecided (w.control d) → Acts w side
    → Acts (cell_world w (w.target d e) (plain (entry_value (w.control d) (w.old d e) (w.new d e)))) side
acts_release w side d e rows here within dec a =
    let c : ℕ = w.target d e in
    let k : ℕ = entry_value (w.control d) (w.old d e) (w.new d e) in
    let s : EntryStandsFor w d c (w.logical w.act_count c) = subst (λ (k : Cell). StandsFor w c k (w.logical w.act_count c)) here (a.now c) in
    let q : s.entry ≡ e = one_entry w side d s.entry e rows (decided_opened _ dec) s.within within s.here in
    acts_cell w side c (plain k) rows (later_cell w c (plain k) (λ y q. cc) (λ f p. let r : desc d ≡ desc f = sym here ∙ p in let t : d ≡ f = cc in subst (λ (x : Ref). IsDecided (w.control x)) t dec) (λ f p t. cc))
    (ap (λ (x : ℕ). entry_value (w.control d) (w.old d x) (w.new d x)) (sym q) ∙ s.value) a

pub acts_open : (w : World) (side : ℕ → Side) (d : Ref) (p : Entries) → Rows w side → OpensNext w side d p
    → Acts w side → Acts (open_world w d p) (updated side d.worker (open_side (side d.worker) d.number))
acts_open w side d p rows can a =
    let l = later_open w side d p rows can in
    let no_new : (f : Ref) → updated_ref w.control d undecided f ≡ succeeded → w.control f ≡ succeeded = λ f q. ⊎_elim (λ r. let t : undecided ≡ succeeded = sym r.1 ∙ q in cc) (λ r. sym r.1 ∙ q) (updated_ref_at w.control d f undecided) in
    acts_stay w (open_world w d p) l side (updated side d.worker (open_side (side d.worker) d.number)) rows (same_notes side d.worker (open_side (side d.worker) d.number) refl) refl no_new (λ j. stands_for_stay w (open_world w d p) l side j (w.logical w.act_count j) (w.cell j) rows refl (λ f e. no_new f) (a.now j))
    (λ f e b.
    let not : f.worker ≢ d.worker = λ q. some_not_none f.number (sym b.current ∙ (ap (λ (u : ℕ). (side u).current) q ∙ can.closed)) in
    let is = updated_else side d.worker f.worker (open_side (side d.worker) d.number) not in
    record { current = ap (λ (t : Side). t.current) is ∙ b.current; unreleased = λ r. b.unreleased (subst (λ (t : Side). In e t.released) is r) }) a

pub acts_place : (w : World) (side : ℕ → Side) (x d : Ref) (e : ℕ) → Rows w side → PlacesNext w side x d e
    → Acts w side → Acts (place_world w x d e) (updated side x.worker (place_side (side x.worker) x.number))
acts_place w side x d e rows can a =
    let v : World = place_world w x d e in
    let l = later_place w side x d e rows can in
    let c : ℕ = w.target d e in
    let s : w.old d e ≡ w.logical w.act_count c = subst (λ (k : Cell). StandsFor w c k (w.logical w.act_count c)) can.found (a.now c) in
    acts_stay w v l side (updated side x.worker (place_side (side x.worker) x.number)) rows (same_notes side x.worker (place_side (side x.worker) x.number) refl) refl (λ f q. q)
    (λ j. ⊎_elim
    (λ (p : (j ≡ c) × (v.cell j ≡ mark x)). subst (λ (k : Cell). StandsFor v j k (w.logical w.act_count j)) (sym p.1)
    (ap (λ (f : Ref). w.old f (v.mark_entry x)) (updated_ref_here w.mark_desc x x d refl) ∙ (ap (λ (n : ℕ). w.old d n) (updated_ref_here w.mark_entry x x e refl) ∙ (s ∙ ap (λ (i : ℕ). w.logical w.act_count i) (sym p.0)))))
    (λ p. subst (λ (k : Cell). StandsFor v j k (w.logical w.act_count j)) (sym p.1)
    (stands_for_stay w v l side j (w.logical w.act_count j) (w.cell j) rows refl (λ f e q. q) (a.now j)))
    (updated_at w.cell c j (mark x))) (owner_same side x.worker (place_side (side x.worker) x.number) refl refl) a

pub acts_decide : (w : World) (side : ℕ → Side) (d : Ref) (r : Control) → Rows w side → w.control d ≡ undecided
    → IsDecided r → r ≢ succeeded → Acts w side → Acts (decide_world w d r) side
acts_decide w side d r rows und dec fail a =
    let l = later_decide w d r und dec fail in
    let no_new : (f : Ref) → updated_ref w.control d r f ≡ succeeded → w.control f ≡ succeeded = λ f q. ⊎_elim (λ p. absurd (fail (sym p.1 ∙ q))) (λ p. sym p.1 ∙ q) (updated_ref_at w.control d f r) in
    acts_stay w (decide_world w d r) l side side rows (λ u n h. h) refl no_new (λ j. stands_for_stay w (decide_world w d r) l side j (w.logical w.act_count j) (w.cell j) rows refl (λ f e. no_new f) (a.now j)) (λ f e b. b) a

-- the one step that changes what cells stand for
pub changed_else : (w : World) (d : Ref) (n : ℕ) (f : ℕ → ℕ) (c : ℕ) → ((e : ℕ) → e < n → w.target d e ≢ c)
    → changed_by w d n f c ≡ f c
changed_else w d zero f c out = refl
changed_else w d (suc n) f c out =
    ap (λ (b : Bool). cond b (w.new d n) (changed_by w d n f c)) (ne_eqb c (w.target d n) (λ e. out n (omega arith) (sym e)))
    ∙ changed_else w d n f c (λ e h. out e (omega arith))

pub changed_at : (w : World) (d : Ref) (n : ℕ) (f : ℕ → ℕ) (e : ℕ)
    → ((i j : ℕ) → i < j → j < n → w.target d i < w.target d j) → e < n
    → changed_by w d n f (w.target d e) ≡ w.new d e
changed_at w d zero f e rising h = absurd (omega arith)
changed_at w d (suc n) f e rising h = ⊎_elim
    (λ (q : e ≡ n). ap (λ (b : Bool). cond b (w.new d n) (changed_by w d n f (w.target d e))) (eq-eqb (w.target d e) (w.target d n) (ap (w.target d) q)) ∙ ap (w.new d) (sym q))
    (λ (q : e ≢ n).
    let r = rising e n (omega arith) (omega arith) in
    let ne : w.target d e ≢ w.target d n = omega arith in
    ap (λ (b : Bool). cond b (w.new d n) (changed_by w d n f (w.target d e))) (ne_eqb (w.target d e) (w.target d n) ne)
    ∙ changed_at w d n f e (λ i j a b. rising i j a (omega arith)) (omega arith)) (same_nat e n)

pub succeed_takes : (w : World) (side : ℕ → Side) (d : Ref) → Rows w side → w.control d ≡ undecided
    → ((e : ℕ) → e < w.size d → w.cell (w.target d e) ≡ desc d) → Acts w side
    → Takes w d (w.logical w.act_count) (changed_by w d (w.size d) (w.logical w.act_count))
succeed_takes w side d rows und all a =
    let o : IsOpened (w.control d) = λ q. (let r : undecided ≡ unused = sym und ∙ q in cc) in
    record {
      olds = λ e h.
          let s : EntryStandsFor w d (w.target d e) (w.logical w.act_count (w.target d e)) = subst (λ (k : Cell). StandsFor w (w.target d e) k (w.logical w.act_count (w.target d e))) (all e h) (a.now (w.target d e)) in
          let q : s.entry ≡ e = one_entry w side d s.entry e rows o s.within h s.here in
          sym s.value ∙ (ap (λ (k : Control). entry_value k (w.old d s.entry) (w.new d s.entry)) und ∙ ap (w.old d) q);
      news = λ e h. changed_at w d (w.size d) (w.logical w.act_count) e (λ i j x y. rows.rising d i j o x y) h;
      rest = λ c out. changed_else w d (w.size d) (w.logical w.act_count) c out;
    }

-- an entry of d at c, or none
pub entry_or : (w : World) (d : Ref) (n c : ℕ)
    → ((e : ℕ) × (e < n) × (w.target d e ≡ c)) ⊎ ((e : ℕ) → e < n → w.target d e ≢ c)
entry_or w d zero c = inr (λ e h. absurd (omega arith))
entry_or w d (suc n) c = ⊎_elim
    (λ (q : w.target d n ≡ c). inl (n, omega arith, q))
    (λ (q : w.target d n ≢ c). ⊎_elim (λ t. let h : t.0 < n = t.1 in inl (t.0, omega arith, t.2))
    (λ out. inr (λ e h. ⊎_elim (λ (r : e ≡ n) s. q (ap (w.target d) (sym r) ∙ s)) (λ (r : e ≢ n). out e (omega arith)) (same_nat e n)))
    (entry_or w d n c)) (same_nat (w.target d n) c)

pub acts_succeed : (w : World) (side : ℕ → Side) (d : Ref) → Rows w side → w.control d ≡ undecided
    → ((e : ℕ) → e < w.size d → w.cell (w.target d e) ≡ desc d) → Acts w side → Acts (succeed_world w d) side
acts_succeed w side d rows und all a =
    let v : World = succeed_world w d in
    let l = later_succeed w side d rows und all in
    let o : IsOpened (w.control d) = λ q. (let r : undecided ≡ unused = sym und ∙ q in cc) in
    let g : ℕ → ℕ = changed_by w d (w.size d) (w.logical w.act_count) in
    let m = succeed_takes w side d rows und all a in
    let act_old : (i : ℕ) → i < w.act_count → v.act i ≡ w.act i = λ i h. l.act i h in
    let act_new : v.act w.act_count ≡ d = updated_here w.act w.act_count w.act_count d refl in
    let here : (side d.worker).current ≡ Some d.number = ⊎_elim (λ x. absurd (undecided_open _ und x)) (λ x. x) (rows.state d o) in
    record {
      made = λ f q. ⊎_elim
          (λ (p : (f ≡ d) × (v.control f ≡ succeeded)). (w.act_count, omega arith, act_new ∙ sym p.0))
          (λ (p : (f ≢ d) × (v.control f ≡ w.control f)). let t = a.made f (sym p.1 ∙ q) in let h : t.0 < w.act_count = t.1 in (t.0, omega arith, act_old t.0 h ∙ t.2))
          (updated_ref_at w.control d f succeeded);
      succeeded = λ i h. ⊎_elim
          (λ (p : i ≡ w.act_count). updated_ref_here w.control d (v.act i) succeeded (ap v.act p ∙ act_new))
          (λ (p : i ≢ w.act_count).
          let k : i < w.act_count = omega arith in
          let s = a.succeeded i k in
          ap v.control (act_old i k) ∙ (l.decided (w.act i) (subst IsDecided (sym s) tt) ∙ s))
          (same_nat i w.act_count);
      ordered = λ i j h k s.
          let ik : i < w.act_count = omega arith in
          let p = act_old i ik in
          ⊎_elim
          (λ (q : j ≡ w.act_count).
          let e : v.act j ≡ d = ap v.act q ∙ act_new in
          let same : (w.act i).worker ≡ d.worker = ap (λ (x : Ref). x.worker) (sym p) ∙ (s ∙ ap (λ (x : Ref). x.worker) e) in
          let is = a.succeeded i ik in
          let le = rows.last d (w.act i) here same (succeeded_opened _ is) in
          let ne : (w.act i).number ≢ d.number = λ n. let r : undecided ≡ succeeded = sym und ∙ (ap w.control (sym (ref_path (w.act i) d same n)) ∙ is) in cc in
          let lt : (w.act i).number < d.number = omega arith in
          subst (λ (x : ℕ × ℕ). x.0 < x.1) (λ t. ((sym p t).number, (sym e t).number)) lt)
          (λ (q : j ≢ w.act_count).
          let jk : j < w.act_count = omega arith in
          let e = act_old j jk in
          let r = a.ordered i j h jk (ap (λ (x : Ref). x.worker) (sym p) ∙ (s ∙ ap (λ (x : Ref). x.worker) e)) in
          subst (λ (x : ℕ × ℕ). x.0 < x.1) (λ t. ((sym p t).number, (sym e t).number)) r)
          (same_nat j w.act_count);
      takes = λ i h. ⊎_elim
          (λ (q : i ≡ w.act_count).
          let e : v.act i ≡ d = ap v.act q ∙ act_new in
          subst (λ (x : Ref). Takes v x (v.logical i) (v.logical (suc i))) (sym e)
          (takes_stay w v l d (w.logical w.act_count) g (v.logical i) (v.logical (suc i)) o
          (λ c. ap (λ (n : ℕ). v.logical n c) q ∙ l.logical w.act_count c (omega arith))
          (λ c. ap (λ (f : ℕ → ℕ). f c) (updated_here w.logical (suc w.act_count) (suc i) g (ap suc q))) m))
          (λ (q : i ≢ w.act_count).
          let k : i < w.act_count = omega arith in
          subst (λ (x : Ref). Takes v x (v.logical i) (v.logical (suc i))) (sym (act_old i k))
          (takes_stay w v l (w.act i) (w.logical i) (w.logical (suc i)) (v.logical i) (v.logical (suc i)) (succeeded_opened _ (a.succeeded i k)) (λ c. l.logical i c (omega arith)) (λ c. l.logical (suc i) c (omega arith)) (a.takes i k)))
          (same_nat i w.act_count);
      now = λ c. subst (λ (f : ℕ → ℕ). IsLogical v c (f c)) (sym (updated_here w.logical (suc w.act_count) (suc w.act_count) g refl))
          (⊎_elim
          (λ (t : (e : ℕ) × (e < w.size d) × (w.target d e ≡ c)). subst (λ (k : Cell). StandsFor v c k (g c)) (sym (ap w.cell (sym t.2) ∙ all t.0 t.1)) record {
            entry = t.0;
            within = t.1;
            here = t.2;
            value = ap (λ (k : Control). entry_value k (w.old d t.0) (w.new d t.0)) (updated_ref_here w.control d d succeeded refl) ∙ (sym (m.news t.0 t.1) ∙ ap g t.2);
          })
          (λ (out : (e : ℕ) → e < w.size d → w.target d e ≢ c). subst (λ (u : ℕ). IsLogical v c u) (sym (m.rest c out))
          (stands_for_stay w v l side c (w.logical w.act_count c) (w.cell c) rows refl
          (λ f e q. ⊎_elim
          (λ (p : (f ≡ d) × (v.control f ≡ succeeded)).
          let st = rows.descs c f e in
          absurd (out st.entry (subst (λ (x : Ref). st.entry < w.size x) p.0 st.within) (ap (λ (x : Ref). w.target x st.entry) (sym p.0) ∙ st.here)))
          (λ (p : (f ≢ d) × (v.control f ≡ w.control f)). sym p.1 ∙ q)
          (updated_ref_at w.control d f succeeded))
          (a.now c)))
          (entry_or w d (w.size d) c));
      standing = λ c f e s. ⊎_elim
          (λ (p : (f ≡ d) × (v.control f ≡ succeeded)).
          let t = rows.descs c f e in
          let now : (side f.worker).current ≡ Some f.number = subst (λ (x : Ref). (side x.worker).current ≡ Some x.number) (sym p.0) here in
          record {
            entry = t.entry;
            within = t.within;
            here = t.here;
            owed = record { current = now; unreleased = λ r. undecided_open _ (ap w.control p.0 ∙ und) (rows.released f t.entry now r) };
          })
          (λ (p : (f ≢ d) × (v.control f ≡ w.control f)). let t = a.standing c f e (sym p.1 ∙ s) in record { entry = t.entry; within = t.within; here = t.here; owed = t.owed })
          (updated_ref_at w.control d f succeeded);
      facts = λ u n h p. acts_fact_stays w v side rows l n p (a.facts u n h p);
    }

pub acts_claim : (w : World) (side : ℕ → Side) → Rows w side → Acts w side → Acts (claim_world w) side
acts_claim w side rows a = acts_stay w (claim_world w) (later_claim w) side side rows (λ u n h. h) refl (λ f q. q)
    (λ j. stands_for_stay w (claim_world w) (later_claim w) side j (w.logical w.act_count j) (w.cell j) rows refl (λ f e q. q) (a.now j)) (λ f e b. b) a
