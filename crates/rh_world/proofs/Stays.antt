-- Each kind of fact is kept by each change that a step may make.
use Rattle.std.proofs.Common.{◌≡◌, ℕ, ◌<◌, ◌≤◌, sym, ap, ◌∙◌, subst, ⊎_elim, arith, Some}
use native.Mathlib.Decide.{dec_lt}
use Rattle.rh_world.specs.World.{IsDecided, IsOpened, Ref, World}
use Rattle.rh_world.specs.World.Control.{undecided, unused}
use Rattle.rh_world.specs.Facts.{HoldsIn, IsMismatch, IsPrefix, Fact, part_of}
use Rattle.rh_world.specs.Facts.Fact.{decided, desc_is, failed_at, found, installed, known, may_demote, may_promote, met, mismatch, new_is, old_is, over, stale, size_is, target_is, which_is}
use Rattle.rh_world.specs.Facts.RulePart.{of_acts, of_prefixes, of_rows}
use Rattle.rh_world.specs.Later.{Later, Steady}
use Rattle.rh_world.specs.Sides.{Side}
use Rattle.rh_world.specs.Rows.{Rows}
use Rattle.rh_world.proofs.Updated.{decided_opened, some_injective, undecided_open}

pub at_work : (w : World) (side : ℕ → Side) (f : Ref) → Rows w side → w.control f ≡ undecided
    → (side f.worker).current ≡ Some f.number
at_work w side f rows u = ⊎_elim (λ x. absurd (undecided_open _ u x)) (λ x. x) (rows.state f (λ q. let r : undecided ≡ unused = sym u ∙ q in cc))

-- one worker has at most one undecided descriptor
one_undecided : (w : World) (side : ℕ → Side) (d f : Ref) → Rows w side → w.control d ≡ undecided
    → w.control f ≡ undecided → f.worker ≡ d.worker → f.number ≡ d.number
one_undecided w side d f rows du fu same =
    some_injective _ _ (sym (at_work w side f rows fu) ∙ (ap (λ (v : ℕ). (side v).current) same ∙ at_work w side d rows du))

-- a prefix stays one: what is new is of a descriptor that was undecided
pub prefix_stays : (w v : World) → Steady w v → (u p n : ℕ)
    → ((f : Ref) → w.control f ≡ undecided → f.worker ≡ u → p ≤ f.number) → IsPrefix w u p n → IsPrefix v u p n
prefix_stays w v l u p n above t =
    let within : n ≤ w.act_count = t.within in
    let more : w.act_count ≤ v.act_count = l.act_count in
    record {
      within = omega arith;
      low = λ i h s.
          let a : v.act i ≡ w.act i = l.act i (omega arith) in
          subst (λ (x : Ref). x.number < p) (sym a) (t.low i h (ap (λ (x : Ref). x.worker) (sym a) ∙ s));
      high = λ i h m s. elim (dec_lt i w.act_count) [
        | yes q ↦ (let a : v.act i ≡ w.act i = l.act i q in
            subst (λ (x : Ref). p ≤ x.number) (sym a) (t.high i h q (ap (λ (x : Ref). x.worker) (sym a) ∙ s)))
        | no q ↦ above (v.act i) (l.fresh i (omega arith) m) s
      ];
    }

pub mismatch_stays : (w v : World) → Steady w v → (d : Ref) (e n : ℕ) → IsOpened (w.control d)
    → ((f : Ref) → w.control f ≡ undecided → f.worker ≡ d.worker → d.number ≤ f.number) → IsMismatch w d e n
    → IsMismatch v d e n
mismatch_stays w v l d e n o above m =
    let p : n ≤ w.act_count = m.prefix.within in
    record {
      within = subst (λ (k : ℕ). e < k) (sym (l.size d o)) m.within;
      prefix = prefix_stays w v l d.worker d.number n above m.prefix;
      acts_before = subst (λ (k : ℕ). k ≤ n) (sym (l.acts_before d o)) m.acts_before;
      differs = λ q. m.differs (sym (ap (λ (c : ℕ). v.logical n c) (l.target d e o) ∙ l.logical n (w.target d e) p) ∙ (q ∙ l.old d e o));
    }

module _ (w v : World) (side : ℕ → Side) (rows : Rows w side) where
  pub rows_fact_stays : Steady w v → (n : Fact) → part_of n ≡ of_rows → HoldsIn w n → HoldsIn v n
  rows_fact_stays l (met d) p t = l.opened d t
  rows_fact_stays l (known d) p t = l.opened d t
  rows_fact_stays l (size_is d n) p t = (l.opened d t.0, l.size d t.0 ∙ t.1)
  rows_fact_stays l (target_is d e c) p t = (l.opened d t.0, l.target d e t.0 ∙ t.1)
  rows_fact_stays l (old_is d e u) p t = (l.opened d t.0, l.old d e t.0 ∙ t.1)
  rows_fact_stays l (new_is d e u) p t = (l.opened d t.0, l.new d e t.0 ∙ t.1)
  rows_fact_stays l (decided d k) p t = (t.0, l.decided d (subst IsDecided (sym t.1) t.0) ∙ t.1)
  rows_fact_stays l (over d) p t = subst IsDecided (sym (l.decided d t)) t
  rows_fact_stays l (failed_at d e) p t = (t.0, l.decided d (subst IsDecided (sym t.1) tt) ∙ t.1)
  rows_fact_stays l (desc_is x d) p t = (l.marks x t.0, l.mark_desc x t.0 ∙ t.1)
  rows_fact_stays l (which_is x e) p t = (l.marks x t.0, l.mark_entry x t.0 ∙ t.1)
  rows_fact_stays l (found x c) p t =
      let h = rows.used x t.0 in
      (l.marks x t.0, (ap (λ (f : Ref). v.target f (v.mark_entry x)) (l.mark_desc x t.0) ∙ (ap (λ (e : ℕ). v.target (w.mark_desc x) e) (l.mark_entry x t.0) ∙ (l.target (w.mark_desc x) (w.mark_entry x) h.0 ∙ t.1))))
  rows_fact_stays l (may_demote x) p t = (l.marks x t.0, subst IsDecided (sym (ap v.control (l.mark_desc x t.0) ∙ l.decided (w.mark_desc x) t.1)) t.1)
  rows_fact_stays l _ p t = cc

  pub acts_fact_stays : Later w v → (n : Fact) → part_of n ≡ of_acts → HoldsIn w n → HoldsIn v n
  acts_fact_stays l (stale d) p t =
      let same : v.control d ≡ w.control d = l.decided d t.0 in (
        subst IsDecided (sym same) t.0,
        λ s c here. ⊎_elim (λ stood. t.1 (sym same ∙ s) c stood) (λ fails. fails s) (l.came c d (decided_opened _ t.0) here),
      )
  acts_fact_stays l (may_promote x c) p t = (l.marks x t.0, λ s q. t.1 (l.stood c x t.0 s) (l.late c x t.0 s (ap v.control (sym (l.mark_desc x t.0)) ∙ q)))
  acts_fact_stays l (installed d e) p t = (l.opened d t.0, λ u. ap v.cell (l.target d e t.0) ∙ l.stays (w.target d e) d (t.1 (l.was_undecided d t.0 u)) u)
  acts_fact_stays l _ p t = cc

  pub prefixes_fact_stays : Steady w v → (n : Fact) → part_of n ≡ of_prefixes → HoldsIn w n → HoldsIn v n
  prefixes_fact_stays l (mismatch d e n) p t = (
    l.opened d t.0,
    λ u.
        let before = l.was_undecided d t.0 u in
        mismatch_stays w v l d e n t.0 (λ f fu s. let q = one_undecided w side d f rows before fu s in omega arith) (t.1 before),
  )
  prefixes_fact_stays l _ p t = cc
