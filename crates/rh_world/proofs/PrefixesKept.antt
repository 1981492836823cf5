-- The prefixes are kept.
use Rattle.std.proofs.Common.{suc, ◌≡◌, ◌≢◌, ℕ, ◌<◌, ◌≤◌, ◌⊎◌, sym, refl, ap, ◌∙◌, subst, inl, inr, ⊎_elim, arith, Some, None}
use Rattle.rh_world.specs.World.{Cell, HasFailed, In, IsOpened, Ref, World, updated}
use Rattle.rh_world.specs.World.Cell.{plain}
use Rattle.rh_world.specs.World.Control.{failed, undecided, unused}
use Rattle.rh_world.specs.Logical.{StandsFor}
use Rattle.rh_world.specs.Facts.{HoldsIn, IsMismatch, IsPrefix, Fact, part_of}
use Rattle.rh_world.specs.Facts.RulePart.{of_prefixes}
use Rattle.rh_world.specs.Later.{Steady}
use Rattle.rh_world.specs.Sides.{KeptRead, Side, open_side, read_side}
use Rattle.rh_world.specs.Rows.{Rows}
use Rattle.rh_world.specs.Acts.{Acts}
use Rattle.rh_world.specs.Prefixes.{FailedAt, InOrder, Prefixes, ReadAt}
use Rattle.rh_world.specs.Moves.{Entries, decide_world, open_world}
use Rattle.rh_world.proofs.ActsKept.{same_notes, succeeded_opened}
use Rattle.rh_world.proofs.Conditions.{OpensNext}
use Rattle.rh_world.proofs.Laters.{steady_decide, steady_open, steady_same}
use Rattle.rh_world.proofs.RowsKept.{by_side, field_same}
use Rattle.rh_world.proofs.Stays.{at_work, mismatch_stays, prefix_stays, prefixes_fact_stays}
use Rattle.rh_world.proofs.Updated.{failed_opened, some_injective, some_not_none, updated_at, updated_ref_at, updated_ref_here}

module _ (w v : World) (l : Steady w v) where
  read_later : (side : ℕ → Side) (u : ℕ) (k : KeptRead)
      → ((f : Ref) → w.control f ≡ undecided → f.worker ≡ u → k.next_number ≤ f.number)
      → ((f : Ref) → IsOpened (v.control f) → IsOpened (w.control f)) → w.next_number u ≤ v.next_number u
      → ReadAt w u k → ReadAt v u k
  read_later side u k above back more t =
      let p : k.acts ≤ w.act_count = t.prefix.within in
      let b : k.next_number ≤ w.next_number u = t.within in
      record {
        prefix = prefix_stays w v l u k.next_number k.acts above t.prefix;
        word = l.logical k.acts k.cell p ∙ t.word;
        low = λ d o s h. subst (λ (n : ℕ). n ≤ k.acts) (sym (l.acts_before d (back d o))) (t.low d (back d o) s h);
        high = λ d o s h. subst (λ (n : ℕ). k.acts ≤ n) (sym (l.acts_before d (back d o))) (t.high d (back d o) s h);
        within = omega arith;
      }

-- a step that opens nothing, fails nothing and keeps no read; `failing` is for the one that fails
module _ (w v : World) (side side' : ℕ → Side) (l : Steady w v) (rows : Rows w side) (back : (f : Ref) → IsOpened (v.control f) → IsOpened (w.control f)) where
  not_below : (d f : Ref) → IsOpened (w.control d) → w.control f ≡ undecided → f.worker ≡ d.worker → d.number ≤ f.number
  not_below d f o u s = rows.last f d (at_work w side f rows u) (sym s) o

  pub failed_stay : (d : Ref) (e : ℕ) → IsOpened (w.control d) → ((u : ℕ) → (side' u).reads ≡ (side u).reads)
      → FailedAt w side d e → FailedAt v side' d e
  failed_stay d e o reads t = record {
    acts = t.acts;
    mismatch = mismatch_stays w v l d e t.acts o (λ f. not_below d f o) t.mismatch;
    opens = λ f h s n. subst (λ (k : ℕ). t.acts ≤ k) (sym (l.acts_before f (back f h))) (t.opens f (back f h) s n);
    reads = λ k i n. t.reads k (subst (In k) (reads d.worker) i) n;
  }

  pub prefixes_stay : ((d : Ref) (e : ℕ) → HasFailed v d e → HasFailed w d e ⊎ FailedAt w side d e)
      → ((u : ℕ) → w.next_number u ≤ v.next_number u) → ((u : ℕ) → (side' u).reads ≡ (side u).reads)
      → ((u p : ℕ) → (side' u).current ≡ Some p → (side u).current ≡ Some p)
      → ((u : ℕ) (n : Fact) → In n (side' u).facts → part_of n ≡ of_prefixes → HoldsIn v n) → Prefixes w side
      → Prefixes v side'
  prefixes_stay failing numbers reads current noted p = record {
    facts = noted;
    acts_before = λ d h. let o = back d h in
        subst (λ (n : ℕ). IsPrefix v d.worker d.number n) (sym (l.acts_before d o)) (prefix_stays w v l d.worker d.number (w.acts_before d) (λ f. not_below d f o) (p.acts_before d o));
    opens = λ d f h i s n. subst (λ (x : ℕ × ℕ). x.0 ≤ x.1) (λ k. (sym (l.acts_before d (back d h)) k, sym (l.acts_before f (back f i)) k)) (p.opens d f (back d h) (back f i) s n);
    failed = λ d e h. let o = back d (failed_opened v d e h) in failed_stay d e o reads (⊎_elim (λ q. p.failed d e q) (λ q. q) (failing d e h));
    reads = λ u k i. let j = subst (In k) (reads u) i in
        read_later w v l side u k (λ f und s. p.at_rest f.worker f.number k (subst (λ (x : ℕ). In k (side x).reads) (sym s) j) (at_work w side f rows und)) back (numbers u) (p.reads u k j);
    in_order = λ u. subst InOrder (sym (reads u)) (p.in_order u);
    at_rest = λ u q k i h. p.at_rest u q k (subst (In k) (reads u) i) (current u q h);
  }

-- a side alone changes
pub prefixes_side : (w : World) (side : ℕ → Side) (who : ℕ) (s : Side) → Rows w side → s.reads ≡ (side who).reads
    → ((p : ℕ) → s.current ≡ Some p → (side who).current ≡ Some p)
    → ((n : Fact) → In n s.facts → part_of n ≡ of_prefixes → HoldsIn w n) → Prefixes w side
    → Prefixes w (updated side who s)
prefixes_side w side who s rows reads current facts p = prefixes_stay w w side (updated side who s) (steady_same w) rows (λ f h. h) (λ f i h. inl h) (λ u. omega arith)
    (field_same side who s (λ (t : Side). t.reads) reads) (λ u q. by_side side who s (λ (x : ℕ) (t : Side). t.current ≡ Some q → (side x).current ≡ Some q) (current q) (λ x n h. h) u)
    (by_side side who s (λ (u : ℕ) (t : Side). (n : Fact) → In n t.facts → part_of n ≡ of_prefixes → HoldsIn w n) facts (λ u n. p.facts u)) p

-- a mismatch that is noted serves a Decide to Failed
pub failing : (w : World) (side : ℕ → Side) (d : Ref) (e n : ℕ) → Rows w side → Prefixes w side
    → w.control d ≡ undecided → IsMismatch w d e n → FailedAt w side d e
failing w side d e n rows p u m = record {
  acts = n;
  mismatch = m;
  opens = λ f h s lt. let r = rows.last d f (at_work w side d rows u) s h in absurd (omega arith);
  reads = λ k i lt. let r = p.at_rest d.worker d.number k i (at_work w side d rows u) in absurd (omega arith);
}

pub prefixes_fail : (w : World) (side : ℕ → Side) (d : Ref) (e by n : ℕ) → Rows w side → w.control d ≡ undecided
    → IsMismatch w d e n → Prefixes w side → Prefixes (decide_world w d (failed e by)) side
prefixes_fail w side d e by n rows u m p =
    let o : IsOpened (w.control d) = λ q. (let r : undecided ≡ unused = sym u ∙ q in cc) in
    let v : World = decide_world w d (failed e by) in
    let l = steady_decide w d (failed e by) u tt (λ q. cc) in
    prefixes_stay w v side side l rows
    (λ f h. ⊎_elim (λ (q : (f ≡ d) × (v.control f ≡ failed e by)). subst (λ (x : Ref). IsOpened (w.control x)) (sym q.0) o) (λ q r. h (q.1 ∙ r)) (updated_ref_at w.control d f (failed e by)))
    (λ f i h. ⊎_elim
    (λ (q : (f ≡ d) × (v.control f ≡ failed e by)).
    let r : e ≡ i = (let r : failed e by ≡ failed i h.0 = sym q.1 ∙ h.1 in cc) in
    inr (subst (λ (x : Ref). FailedAt w side x i) (sym q.0) (subst (FailedAt w side d) r (failing w side d e n rows p u m))))
    (λ q. inl (h.0, sym q.1 ∙ h.1)) (updated_ref_at w.control d f (failed e by)))
    (λ x. omega arith) (λ x. refl) (λ x q h. h)
    (λ y n h q. prefixes_fact_stays w v side rows l n q (p.facts y n h q)) p

-- all acts of a worker are of lower numbers than its next
all_before : (w : World) (side : ℕ → Side) (u : ℕ) → Rows w side → Acts w side
    → IsPrefix w u (w.next_number u) w.act_count
all_before w side u rows acts = record {
  within = omega arith;
  low = λ i h s. subst (λ (x : ℕ). (w.act i).number < w.next_number x) s (rows.below (w.act i) (succeeded_opened _ (acts.succeeded i h)));
  high = λ i a b. absurd (omega arith);
}

pub prefixes_open : (w : World) (side : ℕ → Side) (d : Ref) (p : Entries) → Rows w side → Acts w side
    → OpensNext w side d p → Prefixes w side
    → Prefixes (open_world w d p) (updated side d.worker (open_side (side d.worker) d.number))
prefixes_open w side d p rows acts can pre =
    let v : World = open_world w d p in
    let s : Side = open_side (side d.worker) d.number in
    let side' : ℕ → Side = updated side d.worker s in
    let l = steady_open w side d p rows can in
    let next : d.number ≡ w.next_number d.worker = can.next in
    let opened_or : (f : Ref) → IsOpened (v.control f) → (f ≡ d) ⊎ IsOpened (w.control f) = λ f h. ⊎_elim (λ q. inl q.0) (λ q. inr (λ r. h (q.1 ∙ r))) (updated_ref_at w.control d f undecided) in
    let since_d : v.acts_before d ≡ w.act_count = updated_ref_here w.acts_before d d w.act_count refl in
    let reads : (u : ℕ) → (side' u).reads ≡ (side u).reads = field_same side d.worker s (λ (t : Side). t.reads) refl in
    let lower : (f : Ref) → IsOpened (w.control f) → f.worker ≡ d.worker → f.number < d.number = λ f h q.
    let b : f.number < w.next_number d.worker = subst (λ (u : ℕ). f.number < w.next_number u) q (rows.below f h) in omega arith in
    let stop : (f g : Ref) → IsOpened (w.control f) → w.control g ≡ undecided → g.worker ≡ f.worker → f.number ≤ g.number = λ f g o u q. rows.last g f (at_work w side g rows u) (sym q) o in
    let more : (u : ℕ) → w.next_number u ≤ v.next_number u = λ u. ⊎_elim
    (λ (q : (u ≡ d.worker) × (updated w.next_number d.worker (suc d.number) u ≡ suc d.number)). let r : updated w.next_number d.worker (suc d.number) u ≡ suc d.number = q.1 in let t : w.next_number u ≡ w.next_number d.worker = ap w.next_number q.0 in omega arith)
    (λ (q : (u ≢ d.worker) × (updated w.next_number d.worker (suc d.number) u ≡ w.next_number u)). let r : updated w.next_number d.worker (suc d.number) u ≡ w.next_number u = q.1 in omega arith) (updated_at w.next_number d.worker u (suc d.number)) in
    let parts_d : IsPrefix v d.worker d.number w.act_count = prefix_stays w v l d.worker d.number w.act_count
    (λ f u q. let h = lower f (λ r. let t : undecided ≡ unused = sym u ∙ r in cc) q in let c : None ≡ Some f.number = sym can.closed ∙ (ap (λ (x : ℕ). (side x).current) (sym q) ∙ at_work w side f rows u) in absurd (some_not_none f.number (sym c)))
    (subst (λ (n : ℕ). IsPrefix w d.worker n w.act_count) (sym can.next) (all_before w side d.worker rows acts)) in
    record {
      facts = λ u n h q. prefixes_fact_stays w v side rows l n q (pre.facts u n (same_notes side d.worker s refl u n h) q);
      acts_before = λ f h. ⊎_elim
          (λ (q : f ≡ d). subst (λ (x : Ref). IsPrefix v x.worker x.number (v.acts_before x)) (sym q) (subst (IsPrefix v d.worker d.number) (sym since_d) parts_d))
          (λ (o : IsOpened (w.control f)). subst (λ (n : ℕ). IsPrefix v f.worker f.number n) (sym (l.acts_before f o)) (prefix_stays w v l f.worker f.number (w.acts_before f) (λ g. stop f g o) (pre.acts_before f o)))
          (opened_or f h);
      opens = λ f g h i q n. ⊎_elim
          (λ (r : f ≡ d). ⊎_elim
          (λ (t : g ≡ d). let a : f.number ≡ g.number = ap (λ (x : Ref). x.number) (r ∙ sym t) in absurd (omega arith))
          (λ (o : IsOpened (w.control g)). let a = lower g o (sym q ∙ ap (λ (x : Ref). x.worker) r) in let b : f.number ≡ d.number = ap (λ (x : Ref). x.number) r in absurd (omega arith)) (opened_or g i))
          (λ (o : IsOpened (w.control f)).
          let a : w.acts_before f ≤ w.act_count = (pre.acts_before f o).within in
          ⊎_elim
          (λ (t : g ≡ d). subst (λ (x : ℕ × ℕ). x.0 ≤ x.1) (λ k. (sym (l.acts_before f o) k, sym (ap v.acts_before t ∙ since_d) k)) a)
          (λ (o' : IsOpened (w.control g)). subst (λ (x : ℕ × ℕ). x.0 ≤ x.1) (λ k. (sym (l.acts_before f o) k, sym (l.acts_before g o') k)) (pre.opens f g o o' q n)) (opened_or g i))
          (opened_or f h);
      failed = λ f e h. ⊎_elim
          (λ (q : (f ≡ d) × (v.control f ≡ undecided)). let r : undecided ≡ failed e h.0 = sym q.1 ∙ h.1 in cc)
          (λ (q : (f ≢ d) × (v.control f ≡ w.control f)).
          let was : HasFailed w f e = (h.0, sym q.1 ∙ h.1) in
          let o = failed_opened w f e was in
          let t = pre.failed f e was in
          let b : t.acts ≤ w.act_count = t.mismatch.prefix.within in
          record {
            acts = t.acts;
            mismatch = mismatch_stays w v l f e t.acts o (λ g. stop f g o) t.mismatch;
            opens = λ g i s n. ⊎_elim
                (λ (r : g ≡ d). subst (λ (x : ℕ). t.acts ≤ x) (sym (ap v.acts_before r ∙ since_d)) b)
                (λ (o' : IsOpened (w.control g)). subst (λ (x : ℕ). t.acts ≤ x) (sym (l.acts_before g o')) (t.opens g o' s n)) (opened_or g i);
            reads = λ k i n. t.reads k (subst (In k) (reads f.worker) i) n;
          })
          (updated_ref_at w.control d f undecided);
      reads = λ u k i.
          let j = subst (In k) (reads u) i in
          let t = pre.reads u k j in
          let b : k.next_number ≤ w.next_number u = t.within in
          let m : w.next_number u ≤ v.next_number u = more u in
          let c : k.acts ≤ w.act_count = t.prefix.within in
          record {
            prefix = prefix_stays w v l u k.next_number k.acts (λ f und s. pre.at_rest f.worker f.number k (subst (λ (x : ℕ). In k (side x).reads) (sym s) j) (at_work w side f rows und)) t.prefix;
            word = l.logical k.acts k.cell c ∙ t.word;
            low = λ f h s n. ⊎_elim
                (λ (q : f ≡ d). let x : f.number ≡ w.next_number u = ap (λ (y : Ref). y.number) q ∙ (can.next ∙ ap w.next_number (ap (λ (y : Ref). y.worker) (sym q) ∙ s)) in absurd (omega arith))
                (λ (o : IsOpened (w.control f)). subst (λ (n : ℕ). n ≤ k.acts) (sym (l.acts_before f o)) (t.low f o s n)) (opened_or f h);
            high = λ f h s n. ⊎_elim
                (λ (q : f ≡ d). subst (λ (n : ℕ). k.acts ≤ n) (sym (ap v.acts_before q ∙ since_d)) c)
                (λ (o : IsOpened (w.control f)). subst (λ (n : ℕ). k.acts ≤ n) (sym (l.acts_before f o)) (t.high f o s n)) (opened_or f h);
            within = omega arith;
          };
      in_order = λ u. subst InOrder (sym (reads u)) (pre.in_order u);
      at_rest = λ u q k i h.
          let j = subst (In k) (reads u) i in
          by_side side d.worker s (λ (x : ℕ) (t : Side). (x ≡ u) → t.current ≡ Some q → k.next_number ≤ q)
          (λ e h. let t : k.next_number ≤ w.next_number u = (pre.reads u k j).within in let r : d.number ≡ q = some_injective _ _ h in let a : w.next_number d.worker ≡ w.next_number u = ap w.next_number e in omega arith)
          (λ x n e h. pre.at_rest u q k j (ap (λ (y : ℕ). (side y).current) (sym e) ∙ h)) u refl h;
    }

pub prefixes_read : (w : World) (side : ℕ → Side) (who c x : ℕ) → Rows w side → Acts w side
    → (side who).current ≡ None → w.cell c ≡ plain x → Prefixes w side
    → Prefixes w (updated side who (read_side (side who) c x w.act_count (w.next_number who)))
prefixes_read w side who c x rows acts closed here p =
    let s : Side = read_side (side who) c x w.act_count (w.next_number who) in
    let k : KeptRead = record { cell = c; word = x; acts = w.act_count; next_number = w.next_number who } in
    let side' : ℕ → Side = updated side who s in
    let says : x ≡ w.logical w.act_count c = subst (λ (y : Cell). StandsFor w c y (w.logical w.act_count c)) here (acts.now c) in
    let below : (d : Ref) → IsOpened (w.control d) → d.worker ≡ who → d.number < w.next_number who = λ d o q. subst (λ (u : ℕ). d.number < w.next_number u) q (rows.below d o) in
    let new : ReadAt w who k = record {
      prefix = all_before w side who rows acts;
      word = sym says;
      low = λ d o q n. (p.acts_before d o).within;
      high = λ d o q n. let b = below d o q in absurd (omega arith);
      within = omega arith;
    } in
    record {
      facts = λ u n h. p.facts u n (same_notes side who s refl u n h);
      acts_before = p.acts_before;
      opens = p.opens;
      failed = λ d e h. let t = p.failed d e h in record {
        acts = t.acts;
        mismatch = t.mismatch;
        opens = t.opens;
        reads = λ j i n. by_side side who s (λ (u : ℕ) (z : Side). (u ≡ d.worker) → In j z.reads → t.acts ≤ j.acts)
            (λ q i. ⊎_elim (λ (e : j ≡ k). subst (λ (y : KeptRead). t.acts ≤ y.acts) (sym e) t.mismatch.prefix.within)
            (λ i. t.reads j (subst (λ (u : ℕ). In j (side u).reads) q i) n) i)
            (λ u m q i. t.reads j (subst (λ (u : ℕ). In j (side u).reads) q i) n) d.worker refl i;
      };
      reads = by_side side who s (λ (u : ℕ) (z : Side). (j : KeptRead) → In j z.reads → ReadAt w u j)
          (λ j i. ⊎_elim (λ (e : j ≡ k). subst (ReadAt w who) (sym e) new) (λ i. p.reads who j i) i) (λ u n. p.reads u);
      in_order = by_side side who s (λ (u : ℕ) (z : Side). InOrder z.reads)
          ((λ j i. ((p.reads who j i).prefix.within, (p.reads who j i).within)), p.in_order who) (λ u n. p.in_order u);
      at_rest = λ u q j i h. by_side side who s (λ (y : ℕ) (z : Side). In j z.reads → z.current ≡ Some q → j.next_number ≤ q)
          (λ i h. absurd (some_not_none q (sym h ∙ closed))) (λ y n i h. p.at_rest y q j i h) u i h;
    }
