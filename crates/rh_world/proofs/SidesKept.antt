-- What a worker notes keeps rows, owing and facts; Place and Open.
use Rattle.std.proofs.Common.{◌≡◌, ◌≢◌, ℕ, suc, eqb, ◌<◌, ◌⊎◌, Bool, true, false, cond, ◌&&◌, List, [], ◌∷◌, sym, refl, ap, ◌∙◌, subst, inl, inr, ⊎_elim, arith, ne_eqb, Some, filter, not}
use Rattle.rh_world.specs.World.{In, IsDecided, IsOpened, IsUsed, Ref, World, is_ref, updated}
use Rattle.rh_world.specs.World.Cell.{desc, mark}
use Rattle.rh_world.specs.World.Control.{undecided, unused}
use Rattle.rh_world.specs.Facts.{HoldsIn, Fact, part_of}
use Rattle.rh_world.specs.Facts.RulePart.{of_rows}
use Rattle.rh_world.specs.Sides.{Debt, KeptRead, Side, close_side, forget_side, note_side, open_side, paid_side, place_side, release_side, settle_side}
use Rattle.rh_world.specs.Rows.{ByDebt, ByOwner, ByPlacer, MarkInCell, Opened, OwesEntry, Rows}
use Rattle.rh_world.specs.Moves.{Entries, open_world, place_world}
use Rattle.rh_world.proofs.Conditions.{OpensNext, PlacesNext}
use Rattle.rh_world.proofs.Laters.{steady_open, steady_place, steady_same}
use Rattle.rh_world.proofs.RowsKept.{by_side, desc_stays, field_same, opened_stay, owed_stay}
use Rattle.rh_world.proofs.Stays.{at_work, rows_fact_stays}
use Rattle.rh_world.proofs.Updated.{and_false, is_ref_not, ref_path, same_nat, same_ref, some_injective, some_not_none, undecided_open, updated_at, updated_else, updated_here, updated_ref_at, updated_ref_here}

module _ (w : World) (side : ℕ → Side) (who : ℕ) (s : Side) (rows : Rows w side) where
  rows_side : Opened w (updated side who s)
      → ((m : ℕ) → s.unsettled ≡ Some m → (side who).unsettled ≡ Some m)
      → ((c : ℕ) (x : Ref) → w.cell c ≡ mark x → x.worker ≡ who → s.unsettled ≡ Some x.number)
      → ((c : ℕ) (d : Ref) (e : ℕ) → w.cell c ≡ desc d → e < w.size d → w.target d e ≡ c → OwesEntry w side d e c → OwesEntry w (updated side who s) d e c)
      → ((n : Fact) → In n s.facts → part_of n ≡ of_rows → HoldsIn w n) → Rows w (updated side who s)
  rows_side descriptors fewer kept owed facts = record {
    descriptors = descriptors;
    owing = record {
      used = rows.used;
      unsettled = λ x. by_side side who s (λ (u : ℕ) (t : Side). (p : u ≡ x.worker) → t.unsettled ≡ Some x.number → IsUsed w x)
          (λ p h. rows.unsettled x (ap (λ (u : ℕ). (side u).unsettled) (sym p) ∙ fewer x.number h)) (λ u n p h. rows.unsettled x (ap (λ (u : ℕ). (side u).unsettled) (sym p) ∙ h)) x.worker refl;
      newest = λ x. by_side side who s (λ (u : ℕ) (t : Side). (p : u ≡ x.worker) → t.unsettled ≡ Some x.number → suc x.number ≡ w.marks_used x.worker)
          (λ p h. rows.newest x (ap (λ (u : ℕ). (side u).unsettled) (sym p) ∙ fewer x.number h)) (λ u n p h. rows.newest x (ap (λ (u : ℕ). (side u).unsettled) (sym p) ∙ h)) x.worker refl;
      marks = λ c x e. let m = rows.marks c x e in record {
        used = m.used;
        here = m.here;
        owed = by_side side who s (λ (u : ℕ) (t : Side). (p : u ≡ x.worker) → t.unsettled ≡ Some x.number) (λ p. kept c x e (sym p)) (λ u n p. ap (λ (y : ℕ). (side y).unsettled) p ∙ m.owed) x.worker refl;
      };
      descs = λ c d e. let t = rows.descs c d e in desc_stays w w side (updated side who s) (steady_same w) c d t (owed c d t.entry e t.within t.here t.owed);
    };
    facts = by_side side who s (λ (u : ℕ) (t : Side). (n : Fact) → In n t.facts → part_of n ≡ of_rows → HoldsIn w n) facts (λ u n. rows.facts u);
  }

  opened_same : s.current ≡ (side who).current → s.released ≡ (side who).released → Opened w (updated side who s)
  opened_same current released = opened_stay w w side (updated side who s) (steady_same w) rows.descriptors (λ d h. h) (λ u. refl) (field_same side who s (λ (t : Side). t.current) current) (field_same side who s (λ (t : Side). t.released) released)

  -- all else that is owed stays owed
  owed_same : s.current ≡ (side who).current → s.released ≡ (side who).released
      → ((m : ℕ) → (side who).unsettled ≡ Some m → s.unsettled ≡ Some m)
      → ((q : Debt) → In q (side who).debts → In q s.debts)
      → (d : Ref) (e c : ℕ) → OwesEntry w side d e c → OwesEntry w (updated side who s) d e c
  owed_same current released unsettled debts = owed_stay w w side (updated side who s) (steady_same w) rows.owing
      (λ u p q. field_same side who s (λ (t : Side). t.current) current u ∙ q)
      (λ u p e q r. subst (In e) (field_same side who s (λ (t : Side). t.released) released u) r)
      (λ u m. by_side side who s (λ (x : ℕ) (t : Side). (side x).unsettled ≡ Some m → t.unsettled ≡ Some m) (unsettled m) (λ x n q. q) u)
      (λ u q. by_side side who s (λ (x : ℕ) (t : Side). In q (side x).debts → In q t.debts) (debts q) (λ x n h. h) u)

module _ (w : World) (side : ℕ → Side) (who : ℕ) (rows : Rows w side) where
  -- a fact more
  pub rows_note : (n : Fact) → (part_of n ≡ of_rows → HoldsIn w n) → Rows w (updated side who (note_side (side who) n))
  rows_note n t =
      let s : Side = note_side (side who) n in
      rows_side w side who s rows (opened_same w side who s rows refl refl) (λ m h. h)
      (λ c x e p. ap (λ (u : ℕ). (side u).unsettled) (sym p) ∙ (rows.marks c x e).owed)
      (λ c d e h a b o. owed_same w side who s rows refl refl (λ m q. q) (λ q i. i) d e c o)
      (λ k i. ⊎_elim (λ (q : k ≡ n). subst (λ (m : Fact). part_of m ≡ of_rows → HoldsIn w m) (sym q) t) (λ (i : In k (side who).facts). rows.facts who k i) i)

  -- of the reads and the claims the rows say nothing
  pub rows_reads : (ks : List KeptRead) (ns : List ℕ)
      → Rows w (updated side who (record (side who) { reads = ks; claims = ns }))
  rows_reads ks ns =
      let s : Side = record (side who) { reads = ks; claims = ns } in
      rows_side w side who s rows (opened_same w side who s rows refl refl) (λ m h. h)
      (λ c x e p. ap (λ (u : ℕ). (side u).unsettled) (sym p) ∙ (rows.marks c x e).owed)
      (λ c d e h a b o. owed_same w side who s rows refl refl (λ m q. q) (λ q i. i) d e c o)
      (rows.facts who)

  -- the own mark x is settled: it stands in no cell any more
  pub rows_settle : (x : Ref) (c : ℕ) → x.worker ≡ who → (side who).unsettled ≡ Some x.number
      → w.target (w.mark_desc x) (w.mark_entry x) ≡ c → ((j : ℕ) → w.cell j ≢ mark x)
      → Rows w (updated side who (settle_side (side who) (w.mark_desc x) c))
  rows_settle x c own open_mark here gone =
      let s : Side = settle_side (side who) (w.mark_desc x) c in
      let first_debt : (q : Debt) → q ≡ record { desc = w.mark_desc x; cell = c } → In q s.debts = λ q e. inl e in
      let this : (y : Ref) → y.worker ≡ who → (side who).unsettled ≡ Some y.number → y ≡ x = λ y p h. ref_path y x (p ∙ sym own) (some_injective _ _ (sym h ∙ open_mark)) in
      rows_side w side who s rows (opened_same w side who s rows refl refl) (λ m h. absurd (some_not_none m (sym h)))
      (λ j y e p. absurd (gone j (e ∙ ap mark (this y p (ap (λ (u : ℕ). (side u).unsettled) (sym p) ∙ (rows.marks j y e).owed)))))
      (λ j d e h a b o. ⊎_elim
      (λ (q : ByOwner side d e). inl record {
        current = field_same side who s (λ (t : Side). t.current) refl d.worker ∙ q.current;
        unreleased = λ r. q.unreleased (subst (In e) (field_same side who s (λ (t : Side). t.released) refl d.worker) r);
      })
      (λ p. inr (⊎_elim
      (λ (q : ByPlacer w side d e). ⊎_elim
      (λ (is : q.who.worker ≡ who).
      let y : q.who ≡ x = this q.who is (ap (λ (u : ℕ). (side u).unsettled) (sym is) ∙ q.unsettled) in
      let dx : d ≡ w.mark_desc x = sym q.mark_desc ∙ ap w.mark_desc y in
      let ex : e ≡ w.mark_entry x = sym q.mark_entry ∙ ap w.mark_entry y in
      let cj : j ≡ c = sym b ∙ (ap (λ (f : Ref). w.target f e) dx ∙ (ap (w.target (w.mark_desc x)) ex ∙ here)) in
      inr record {
        who = who;
        debt = subst (λ (t : Side). In (record { desc = d; cell = j }) t.debts) (sym (updated_here side who who s refl)) (first_debt record { desc = d; cell = j } (λ i. record { desc = dx i; cell = cj i }));
      })
      (λ (not : q.who.worker ≢ who). inl record { who = q.who; unsettled = ap (λ (t : Side). t.unsettled) (updated_else side who q.who.worker s not) ∙ q.unsettled; mark_desc = q.mark_desc; mark_entry = q.mark_entry })
      (same_nat q.who.worker who))
      (λ (q : ByDebt side d j). inr record {
        who = q.who;
        debt = by_side side who s (λ (u : ℕ) (t : Side). (In (record { desc = d; cell = j }) (side u).debts → In (record { desc = d; cell = j }) t.debts)) (λ h. inr h) (λ u n h. h) q.who q.debt;
      }) p)) o)
      (rows.facts who)

  -- fewer debts, where what stands in a cell keeps another
  pub rows_debts : (keep : Debt → Bool)
      → ((c : ℕ) (d : Ref) (e : ℕ) → w.cell c ≡ desc d → In (record { desc = d; cell = c }) (side who).debts → (keep (record { desc = d; cell = c }) ≡ true) ⊎ ByOwner side d e)
      → Rows w (updated side who (record (side who) { debts = filter keep (side who).debts }))
  rows_debts keep spared =
      let s : Side = record (side who) { debts = filter keep (side who).debts } in
      rows_side w side who s rows (opened_same w side who s rows refl refl) (λ m h. h)
      (λ c x e p. ap (λ (u : ℕ). (side u).unsettled) (sym p) ∙ (rows.marks c x e).owed)
      (λ j d e h a b o.
      let owner : ByOwner side d e → OwesEntry w (updated side who s) d e j = λ q. inl record {
        current = field_same side who s (λ (t : Side). t.current) refl d.worker ∙ q.current;
        unreleased = λ r. q.unreleased (subst (In e) (field_same side who s (λ (t : Side). t.released) refl d.worker) r);
      } in ⊎_elim owner
      (λ p. ⊎_elim
      (λ (q : ByPlacer w side d e). inr (inl record { who = q.who; unsettled = field_same side who s (λ (t : Side). t.unsettled) refl q.who.worker ∙ q.unsettled; mark_desc = q.mark_desc; mark_entry = q.mark_entry }))
      (λ (q : ByDebt side d j). by_side side who s (λ (u : ℕ) (t : Side). (updated side who s u ≡ t) → In (record { desc = d; cell = j }) (side u).debts → OwesEntry w (updated side who s) d e j)
      (λ z i. ⊎_elim (λ k. inr (inr record { who = who; debt = subst (λ (t : Side). In (record { desc = d; cell = j }) t.debts) (sym z) (in_filtered keep record { desc = d; cell = j } (side who).debts k i) })) owner (spared j d e h i))
      (λ u n z i. inr (inr record { who = u; debt = subst (λ (t : Side). In (record { desc = d; cell = j }) t.debts) (sym z) i })) q.who refl q.debt) p) o)
      (rows.facts who)
    where
      in_filtered : (k : Debt → Bool) (q : Debt) (l : List Debt) → k q ≡ true → In q l → In q (filter k l)
      in_filtered k q [] e i = i
      in_filtered k q (x ∷ xs) e i = ⊎_elim
          (λ (p : q ≡ x). subst (λ (b : Bool). In q (cond b (x ∷ filter k xs) (filter k xs))) (sym (ap k (sym p) ∙ e)) (inl p))
          (λ (j : In q xs). over (k x) x xs (in_filtered k q xs e j)) i
        where
          over : (b : Bool) (x : Debt) (xs : List Debt) → In q (filter k xs)
              → In q (cond b (x ∷ filter k xs) (filter k xs))
          over true x xs h = inr h
          over false x xs h = h

-- what an owner owes but for entry e of its open descriptor d, which does not stand there, it owes after that is released
pub owner_released : (w : World) (side : ℕ → Side) (who : ℕ) (d : Ref) (e : ℕ) → d.worker ≡ who → (side who).current ≡ Some d.number → w.cell (w.target d e) ≢ desc d
    → (f : Ref) (i : ℕ) → w.cell (w.target f i) ≡ desc f → ByOwner side f i → ByOwner (updated side who (release_side (side who) e)) f i
owner_released w side who d e own at_work gone f i here b =
    let s : Side = release_side (side who) e in
    record {
      current = field_same side who s (λ (t : Side). t.current) refl f.worker ∙ b.current;
      unreleased = λ r. by_side side who s (λ (u : ℕ) (t : Side). (u ≡ f.worker) → In i t.released → ⊥)
          (λ p r. ⊎_elim
          (λ (ie : i ≡ e).
          let fd : f ≡ d = ref_path f d (sym p ∙ sym own) (some_injective _ _ (sym b.current ∙ (ap (λ (u : ℕ). (side u).current) (sym p) ∙ at_work))) in
          gone (ap w.cell (sym (ap (λ (x : Ref). w.target x e) fd) ∙ ap (w.target f) (sym ie)) ∙ (here ∙ ap desc fd)))
          (λ r. b.unreleased (subst (λ (x : ℕ). In i (side x).released) p r)) r)
          (λ u n p r. b.unreleased (subst (λ (x : ℕ). In i (side x).released) p r)) f.worker refl r;
    }

-- and after it is closed, all its entries released
pub owner_closed : (w : World) (side : ℕ → Side) (who : ℕ) (d : Ref) → d.worker ≡ who → (side who).current ≡ Some d.number
    → ((e : ℕ) → e < w.size d → In e (side who).released)
    → (f : Ref) (i : ℕ) → i < w.size f → ByOwner side f i → ByOwner (updated side who (close_side (side who))) f i
owner_closed w side who d own at_work all f i lt b =
    let s : Side = close_side (side who) in
    ⊎_elim
    (λ (p : f.worker ≡ who).
    let fd : f ≡ d = ref_path f d (p ∙ sym own) (some_injective _ _ (sym b.current ∙ (ap (λ (u : ℕ). (side u).current) p ∙ at_work))) in
    absurd (b.unreleased (subst (λ (u : ℕ). In i (side u).released) (sym p) (all i (subst (λ (x : Ref). i < w.size x) fd lt)))))
    (λ (n : f.worker ≢ who).
    let is = updated_else side who f.worker s n in
    record { current = ap (λ (t : Side). t.current) is ∙ b.current; unreleased = λ r. b.unreleased (subst (λ (t : Side). In i t.released) is r) })
    (same_nat f.worker who)

module _ (w : World) (side : ℕ → Side) (who : ℕ) (rows : Rows w side) where
  -- the control of d was read as undecided: its owner owes it
  pub rows_forget : (d : Ref) → w.control d ≡ undecided → Rows w (updated side who (forget_side (side who) d))
  rows_forget d und = rows_debts w side who rows (λ q. not (is_ref q.desc d))
      (λ c f e h i. ⊎_elim
      (λ (p : f ≡ d).
      let fu : w.control f ≡ undecided = ap w.control p ∙ und in
      let at_work : (side f.worker).current ≡ Some f.number = ⊎_elim (λ x. absurd (undecided_open _ fu x)) (λ x. x) (rows.state f (rows.descs c f h).opened) in
      inr record { current = at_work; unreleased = λ r. undecided_open _ fu (rows.released f e at_work r) })
      (λ (n : f ≢ d). inl (ap not (is_ref_not f d n))) (same_ref f d))

  -- a Release of d at c was made: d does not stand there
  pub rows_paid : (d : Ref) (c : ℕ) → w.cell c ≢ desc d → Rows w (updated side who (paid_side (side who) d c))
  rows_paid d c gone = rows_debts w side who rows (λ q. not (is_ref q.desc d && eqb q.cell c))
      (λ j f e h i. inl (⊎_elim
      (λ (p : f ≡ d). ⊎_elim
      (λ (q : j ≡ c). absurd (gone (ap w.cell (sym q) ∙ (h ∙ ap desc p))))
      (λ (n : j ≢ c). ap (λ (b : Bool). not (is_ref f d && b)) (ne_eqb j c n) ∙ ap not (and_false (is_ref f d))) (same_nat j c))
      (λ (n : f ≢ d). ap (λ (b : Bool). not (b && eqb j c)) (is_ref_not f d n)) (same_ref f d)))

  -- the own open descriptor d is decided, and does not stand at its entry e
  pub rows_released : (d : Ref) (e : ℕ) → d.worker ≡ who → (side who).current ≡ Some d.number
      → IsDecided (w.control d) → w.cell (w.target d e) ≢ desc d
      → Rows w (updated side who (release_side (side who) e))
  rows_released d e own at_work dec gone =
      let s : Side = release_side (side who) e in
      let this : (f : Ref) → f.worker ≡ who → (side who).current ≡ Some f.number → f ≡ d = λ f p h. ref_path f d (p ∙ sym own) (some_injective _ _ (sym h ∙ at_work)) in
      let same : (u : ℕ) → (updated side who s u).current ≡ (side u).current = field_same side who s (λ (t : Side). t.current) refl in
      rows_side w side who s rows
      record {
        below = rows.below;
        rising = rows.rising;
        state = λ f h. ⊎_elim inl (λ x. inr (same f.worker ∙ x)) (rows.state f h);
        current = λ f h. rows.current f (sym (same f.worker) ∙ h);
        last = λ f g h. rows.last f g (sym (same f.worker) ∙ h);
        released = λ f i h r.
            let c = sym (same f.worker) ∙ h in
            by_side side who s (λ (u : ℕ) (t : Side). (u ≡ f.worker) → In i t.released → IsDecided (w.control f))
            (λ p r. subst (λ (x : Ref). IsDecided (w.control x)) (sym (this f (sym p) (ap (λ (u : ℕ). (side u).current) p ∙ c))) dec)
            (λ u n p r. rows.released f i c (subst (λ (x : ℕ). In i (side x).released) p r)) f.worker refl r;
      }
      (λ m h. h)
      (λ c x q p. ap (λ (u : ℕ). (side u).unsettled) (sym p) ∙ (rows.marks c x q).owed)
      (λ j f i h a b o. ⊎_elim
      (λ (q : ByOwner side f i). inl (owner_released w side who d e own at_work gone f i (ap w.cell b ∙ h) q))
      (λ p. inr (⊎_elim
      (λ (q : ByPlacer w side f i). inl record { who = q.who; unsettled = field_same side who s (λ (t : Side). t.unsettled) refl q.who.worker ∙ q.unsettled; mark_desc = q.mark_desc; mark_entry = q.mark_entry })
      (λ (q : ByDebt side f j). inr record { who = q.who; debt = subst (λ (l : List Debt). In (record { desc = f; cell = j }) l) (sym (field_same side who s (λ (t : Side). t.debts) refl q.who)) q.debt }) p)) o)
      (rows.facts who)

  -- and all its entries are released
  pub rows_closed : (d : Ref) → d.worker ≡ who → (side who).current ≡ Some d.number → IsDecided (w.control d)
      → ((e : ℕ) → e < w.size d → In e (side who).released) → Rows w (updated side who (close_side (side who)))
  rows_closed d own at_work dec all =
      let s : Side = close_side (side who) in
      let this : (f : Ref) → f.worker ≡ who → (side who).current ≡ Some f.number → f ≡ d = λ f p h. ref_path f d (p ∙ sym own) (some_injective _ _ (sym h ∙ at_work)) in
      let back : (f : Ref) → (updated side who s f.worker).current ≡ Some f.number → (f.worker ≢ who) × ((side f.worker).current ≡ Some f.number) = λ f h.
      by_side side who s (λ (u : ℕ) (t : Side). t.current ≡ Some f.number → (u ≢ who) × ((side u).current ≡ Some f.number)) (λ h. absurd (some_not_none f.number (sym h))) (λ u n h. (n, h)) f.worker h in
      rows_side w side who s rows
      record {
        below = rows.below;
        rising = rows.rising;
        state = λ f h. ⊎_elim inl
            (λ x. by_side side who s (λ (u : ℕ) (t : Side). (u ≡ f.worker) → (IsDecided (w.control f) ⊎ (t.current ≡ Some f.number)))
            (λ p. inl (subst (λ (x : Ref). IsDecided (w.control x)) (sym (this f (sym p) (ap (λ (u : ℕ). (side u).current) p ∙ x))) dec)) (λ u n p. inr (ap (λ (y : ℕ). (side y).current) p ∙ x)) f.worker refl) (rows.state f h);
        current = λ f h. rows.current f (back f h).1;
        last = λ f g h. rows.last f g (back f h).1;
        released = λ f i h r. let b = back f h in rows.released f i b.1 (subst (λ (t : Side). In i t.released) (updated_else side who f.worker s b.0) r);
      }
      (λ m h. h)
      (λ c x q p. ap (λ (u : ℕ). (side u).unsettled) (sym p) ∙ (rows.marks c x q).owed)
      (λ j f i h a b o. ⊎_elim
      (λ (q : ByOwner side f i). inl (owner_closed w side who d own at_work all f i a q))
      (λ p. inr (⊎_elim
      (λ (q : ByPlacer w side f i). inl record { who = q.who; unsettled = field_same side who s (λ (t : Side). t.unsettled) refl q.who.worker ∙ q.unsettled; mark_desc = q.mark_desc; mark_entry = q.mark_entry })
      (λ (q : ByDebt side f j). inr record { who = q.who; debt = subst (λ (l : List Debt). In (record { desc = f; cell = j }) l) (sym (field_same side who s (λ (t : Side). t.debts) refl q.who)) q.debt }) p)) o)
      (rows.facts who)

-- a mark is placed
pub rows_place : (w : World) (side : ℕ → Side) (x d : Ref) (e : ℕ) → Rows w side → PlacesNext w side x d e
    → Rows (place_world w x d e) (updated side x.worker (place_side (side x.worker) x.number))
rows_place w side x d e rows can =
    let v : World = place_world w x d e in
    let s : Side = place_side (side x.worker) x.number in
    let side' : ℕ → Side = updated side x.worker s in
    let l = steady_place w side x d e rows can in
    let c : ℕ = w.target d e in
    let of_x : v.mark_desc x ≡ d = updated_ref_here w.mark_desc x x d refl in
    let which_x : v.mark_entry x ≡ e = updated_ref_here w.mark_entry x x e refl in
    let used_x : IsUsed v x = (let q : updated w.marks_used x.worker (suc x.number) x.worker ≡ suc x.number = updated_here w.marks_used x.worker x.worker (suc x.number) refl in omega arith) in
    let used_or : (y : Ref) → IsUsed v y → (y ≡ x) ⊎ IsUsed w y = λ y h. ⊎_elim
    (λ (p : (y.worker ≡ x.worker) × (updated w.marks_used x.worker (suc x.number) y.worker ≡ suc x.number)).
    let q : updated w.marks_used x.worker (suc x.number) y.worker ≡ suc x.number = p.1 in
    ⊎_elim (λ (n : y.number ≡ x.number). inl (ref_path y x p.0 n))
    (λ (n : y.number ≢ x.number).
    let k : x.number ≡ w.marks_used x.worker = can.next in
    let t : y.number < w.marks_used x.worker = omega arith in
    inr (subst (λ (u : ℕ). y.number < w.marks_used u) (sym p.0) t)) (same_nat y.number x.number))
    (λ p. inr (subst (λ (n : ℕ). y.number < n) p.1 h)) (updated_at w.marks_used x.worker y.worker (suc x.number)) in
    let free : (y : Ref) → (side y.worker).unsettled ≡ Some y.number → y.worker ≢ x.worker = λ y h p. some_not_none y.number (sym h ∙ (ap (λ (u : ℕ). (side u).unsettled) p ∙ can.settled)) in
    record {
      descriptors = opened_stay w v side side' l rows.descriptors (λ f h. h) (λ u. refl) (field_same side x.worker s (λ (t : Side). t.current) refl) (field_same side x.worker s (λ (t : Side). t.released) refl);
      owing = record {
        used = λ y h. ⊎_elim
            (λ (p : y ≡ x). subst (λ (z : Ref). IsOpened (w.control (v.mark_desc z)) × (v.mark_entry z < w.size (v.mark_desc z))) (sym p)
            (subst (λ (f : Ref). IsOpened (w.control f)) (sym of_x) can.opened, subst (λ (z : ℕ × ℕ). z.0 < z.1) (λ i. (sym which_x i, sym (ap w.size of_x) i)) can.within))
            (λ (u : IsUsed w y). let t = rows.used y u in
            (subst (λ (f : Ref). IsOpened (w.control f)) (sym (l.mark_desc y u)) t.0, subst (λ (z : ℕ × ℕ). z.0 < z.1) (λ i. (sym (l.mark_entry y u) i, sym (ap w.size (l.mark_desc y u)) i)) t.1))
            (used_or y h);
        unsettled = λ y h. by_side side x.worker s (λ (u : ℕ) (t : Side). (u ≡ y.worker) → t.unsettled ≡ Some y.number → IsUsed v y)
            (λ p q. subst (λ (z : Ref). IsUsed v z) (sym (ref_path y x (sym p) (some_injective _ _ (sym q)))) used_x)
            (λ u n p q. l.marks y (rows.unsettled y (ap (λ (z : ℕ). (side z).unsettled) (sym p) ∙ q))) y.worker refl h;
        newest = λ y h. by_side side x.worker s (λ (u : ℕ) (t : Side). (u ≡ y.worker) → t.unsettled ≡ Some y.number → suc y.number ≡ v.marks_used y.worker)
            (λ p q.
            let n : x.number ≡ y.number = some_injective _ _ q in
            ap suc (sym n) ∙ sym (updated_here w.marks_used x.worker y.worker (suc x.number) (sym p)))
            (λ u n p q. rows.newest y (ap (λ (z : ℕ). (side z).unsettled) (sym p) ∙ q) ∙ sym (updated_else w.marks_used x.worker y.worker (suc x.number) (λ z. n (p ∙ z)))) y.worker refl h;
        marks = λ j y q. ⊎_elim
            (λ (p : (j ≡ c) × (v.cell j ≡ mark x)).
            let yx : x ≡ y = (let r : mark x ≡ mark y = sym p.1 ∙ q in cc) in
            subst (λ (z : Ref). MarkInCell v side' j z) yx record {
              used = used_x;
              here = ap (λ (f : Ref). w.target f (v.mark_entry x)) of_x ∙ (ap (w.target d) which_x ∙ sym p.0);
              owed = ap (λ (t : Side). t.unsettled) (updated_here side x.worker x.worker s refl);
            })
            (λ p. let m = rows.marks j y (sym p.1 ∙ q) in record {
              used = l.marks y m.used;
              here = ap (λ (f : Ref). w.target f (v.mark_entry y)) (l.mark_desc y m.used) ∙ (ap (w.target (w.mark_desc y)) (l.mark_entry y m.used) ∙ m.here);
              owed = ap (λ (t : Side). t.unsettled) (updated_else side x.worker y.worker s (free y m.owed)) ∙ m.owed;
            })
            (updated_at w.cell c j (mark x));
        descs = λ j f q. ⊎_elim
            (λ (p : (j ≡ c) × (v.cell j ≡ mark x)). let r : mark x ≡ desc f = sym p.1 ∙ q in cc)
            (λ p. let t = rows.descs j f (sym p.1 ∙ q) in desc_stays w v side side' l j f t
            (owed_stay w v side side' l rows.owing
            (λ u n h. field_same side x.worker s (λ (t : Side). t.current) refl u ∙ h)
            (λ u n i h r. subst (In i) (field_same side x.worker s (λ (t : Side). t.released) refl u) r)
            (λ u m h. by_side side x.worker s (λ (u : ℕ) (t : Side). (side u).unsettled ≡ Some m → t.unsettled ≡ Some m) (λ h. absurd (some_not_none m (sym h ∙ can.settled))) (λ u n h. h) u h)
            (λ u q h. subst (λ (z : List Debt). In q z) (sym (field_same side x.worker s (λ (t : Side). t.debts) refl u)) h)
            f t.entry j t.owed))
            (updated_at w.cell c j (mark x));
      };
      facts = λ u n h p. rows_fact_stays w v side rows l n p (rows.facts u n (subst (λ (z : List Fact). In n z) (field_same side x.worker s (λ (t : Side). t.facts) refl u) h) p);
    }

-- a descriptor is opened
pub rows_open : (w : World) (side : ℕ → Side) (d : Ref) (p : Entries) → Rows w side → OpensNext w side d p
    → Rows (open_world w d p) (updated side d.worker (open_side (side d.worker) d.number))
rows_open w side d p rows can =
    let v : World = open_world w d p in
    let s : Side = open_side (side d.worker) d.number in
    let side' : ℕ → Side = updated side d.worker s in
    let l = steady_open w side d p rows can in
    let next : d.number ≡ w.next_number d.worker = can.next in
    let opened_or : (f : Ref) → IsOpened (v.control f) → (f ≡ d) ⊎ IsOpened (w.control f) = λ f h. ⊎_elim (λ q. inl q.0) (λ q. inr (λ r. h (q.1 ∙ r))) (updated_ref_at w.control d f undecided) in
    let opened_d : IsOpened (v.control d) = λ q. (let r : undecided ≡ unused = sym (updated_ref_here w.control d d undecided refl) ∙ q in cc) in
    let lower : (f : Ref) → IsOpened (w.control f) → f.worker ≡ d.worker → f.number < d.number = λ f h q.
    let b : f.number < w.next_number d.worker = subst (λ (u : ℕ). f.number < w.next_number u) q (rows.below f h) in omega arith in
    let here_or : (f : Ref) → (side' f.worker).current ≡ Some f.number → (f ≡ d) ⊎ ((f.worker ≢ d.worker) × ((side f.worker).current ≡ Some f.number)) = λ f h.
    by_side side d.worker s (λ (u : ℕ) (t : Side). (u ≡ f.worker) → t.current ≡ Some f.number → (f ≡ d) ⊎ ((u ≢ d.worker) × ((side u).current ≡ Some f.number)))
    (λ q h. inl (ref_path f d (sym q) (some_injective _ _ (sym h)))) (λ u n q h. inr (n, h)) f.worker refl h in
    record {
      descriptors = record {
        below = λ f h. ⊎_elim
            (λ (q : f ≡ d). subst (λ (x : Ref). x.number < v.next_number x.worker) (sym q)
            (let r : updated w.next_number d.worker (suc d.number) d.worker ≡ suc d.number = updated_here w.next_number d.worker d.worker (suc d.number) refl in let t = can.nonempty in omega arith))
            (λ (o : IsOpened (w.control f)). ⊎_elim
            (λ (q : (f.worker ≡ d.worker) × (updated w.next_number d.worker (suc d.number) f.worker ≡ suc d.number)). let r = lower f o q.0 in let t : updated w.next_number d.worker (suc d.number) f.worker ≡ suc d.number = q.1 in omega arith)
            (λ q. subst (λ (n : ℕ). f.number < n) (sym q.1) (rows.below f o)) (updated_at w.next_number d.worker f.worker (suc d.number)))
            (opened_or f h);
        rising = λ f i j h a b. ⊎_elim
            (λ (q : f ≡ d).
            let g = updated_ref_here w.target d f p.target q in
            subst (λ (z : ℕ × ℕ). z.0 < z.1) (λ k. (sym (ap (λ (t : ℕ → ℕ). t i) g) k, sym (ap (λ (t : ℕ → ℕ). t j) g) k)) (can.rising i j a (subst (λ (n : ℕ). j < n) (updated_ref_here w.size d f p.size q) b)))
            (λ (o : IsOpened (w.control f)). subst (λ (z : ℕ × ℕ). z.0 < z.1) (λ k. (sym (l.target f i o) k, sym (l.target f j o) k)) (rows.rising f i j o a (subst (λ (n : ℕ). j < n) (l.size f o) b)))
            (opened_or f h);
        state = λ f h. ⊎_elim
            (λ (q : f ≡ d). inr (ap (λ (t : Side). t.current) (updated_here side d.worker f.worker s (ap (λ (x : Ref). x.worker) q)) ∙ ap (λ (x : Ref). Some x.number) (sym q)))
            (λ (o : IsOpened (w.control f)). ⊎_elim (λ x. inl (subst IsDecided (sym (l.decided f x)) x))
            (λ x. inr (ap (λ (t : Side). t.current) (updated_else side d.worker f.worker s (λ q. some_not_none f.number (sym x ∙ (ap (λ (u : ℕ). (side u).current) q ∙ can.closed)))) ∙ x)) (rows.state f o))
            (opened_or f h);
        current = λ f h. ⊎_elim (λ (q : f ≡ d). subst (λ (x : Ref). IsOpened (v.control x)) (sym q) opened_d) (λ q. l.opened f (rows.current f q.1)) (here_or f h);
        last = λ f g h same o. ⊎_elim
            (λ (q : f ≡ d). ⊎_elim
            (λ (r : g ≡ d). let t : g.number ≡ f.number = ap (λ (x : Ref). x.number) (r ∙ sym q) in omega arith)
            (λ (r : IsOpened (w.control g)). let t = lower g r (same ∙ ap (λ (x : Ref). x.worker) q) in let k : f.number ≡ d.number = ap (λ (x : Ref). x.number) q in omega arith) (opened_or g o))
            (λ q. ⊎_elim
            (λ (r : g ≡ d). absurd (q.0 (sym same ∙ ap (λ (x : Ref). x.worker) r)))
            (λ (r : IsOpened (w.control g)). rows.last f g q.1 same r) (opened_or g o)) (here_or f h);
        released = λ f i h r. ⊎_elim
            (λ (q : f ≡ d). absurd (subst (λ (t : Side). In i t.released) (updated_here side d.worker f.worker s (ap (λ (x : Ref). x.worker) q)) r))
            (λ q. let x = rows.released f i q.1 (subst (λ (t : Side). In i t.released) (updated_else side d.worker f.worker s q.0) r) in subst IsDecided (sym (l.decided f x)) x) (here_or f h);
      };
      owing = record {
        used = λ x h. let t = rows.used x h in (l.opened (w.mark_desc x) t.0, subst (λ (n : ℕ). w.mark_entry x < n) (sym (l.size (w.mark_desc x) t.0)) t.1);
        unsettled = λ x h. rows.unsettled x (sym (field_same side d.worker s (λ (t : Side). t.unsettled) refl x.worker) ∙ h);
        newest = λ x h. rows.newest x (sym (field_same side d.worker s (λ (t : Side). t.unsettled) refl x.worker) ∙ h);
        marks = λ j x q. let m = rows.marks j x q in record {
          used = m.used;
          here = l.target (w.mark_desc x) (w.mark_entry x) (rows.used x m.used).0 ∙ m.here;
          owed = field_same side d.worker s (λ (t : Side). t.unsettled) refl x.worker ∙ m.owed;
        };
        descs = λ j f q. let t = rows.descs j f q in desc_stays w v side side' l j f t
            (owed_stay w v side side' l rows.owing
            (λ u n h. by_side side d.worker s (λ (u : ℕ) (t : Side). (side u).current ≡ Some n → t.current ≡ Some n) (λ h. absurd (some_not_none n (sym h ∙ can.closed))) (λ u m h. h) u h)
            (λ u n i h r. by_side side d.worker s (λ (u : ℕ) (t : Side). In i t.released → In i (side u).released) (λ r. absurd r) (λ u m r. r) u r)
            (λ u m h. field_same side d.worker s (λ (t : Side). t.unsettled) refl u ∙ h)
            (λ u q h. subst (λ (z : List Debt). In q z) (sym (field_same side d.worker s (λ (t : Side). t.debts) refl u)) h)
            f t.entry j t.owed);
      };
      facts = λ u n h p. rows_fact_stays w v side rows l n p (rows.facts u n (subst (λ (z : List Fact). In n z) (field_same side d.worker s (λ (t : Side). t.facts) refl u) h) p);
    }
