-- A worker reads its own changes back.
use Rattle.std.proofs.Common.{◌≡◌, ◌≢◌, ℕ, suc, ◌<◌, [], refl, sym, ap, ◌∙◌, subst, inl, ⊎_elim, arith}
use Rattle.std.specs.Prelude.{length}
use Rattle.std.proofs.lemmas.Bool.{cases_lt}
use Rattle.rh_world.specs.World.{Control, In, Ref, World}
use Rattle.rh_world.specs.World.Control.{failed, succeeded, undecided, unused, withdrawn}
use Rattle.rh_world.specs.Facts.Fact.{decided}
use Rattle.rh_world.specs.Acts.{cells_after}
use Rattle.rh_world.specs.Logical.{changed_by}
use Rattle.rh_world.proofs.ActsKept.{changed_at}
use Rattle.rh_world.proofs.Updated.{same_nat}
use Rattle.rh_words.specs.declared.shape.Shape.{Shape}
use Rattle.rh_words.specs.View.{OwnDesc, View, own_ref}
use Rattle.rh_words.specs.Steps.{AreEntries, entry_of}
use Rattle.rh_words.specs.Words.{without_entry}
use Rattle.rh_rule.specs.Represents.{IsOpenedSo}
use Rattle.rh_kcas.specs.Reads.{OwnChangesAreRead}
use Rattle.rh_kcas.proofs.ReadsBack.{reads_tell}

is_succeeded : (k : Control) → without_entry k ≡ succeeded → k ≡ succeeded
is_succeeded unused e = cc
is_succeeded undecided e = cc
is_succeeded succeeded e = refl
is_succeeded withdrawn e = cc
is_succeeded (failed n by) e = cc

-- the act of an own descriptor puts its new words into its cells
module _ (w : World) (z : Shape) (d : Ref) (o : OwnDesc) (so : IsOpenedSo w d o) (fits : AreEntries z o.entries) (e : ℕ) (within : e < length o.entries) where
  rising : (i j : ℕ) → i < j → j < w.size d → w.target d i < w.target d j
  rising i j less inside =
      let inside_es : j < length o.entries = subst (λ (k : ℕ). j < k) so.size inside in
      let cells = fits.rising i j less inside_es in
      let left = so.targets i (omega (arith, less, inside_es)) in
      let right = so.targets j inside_es in
      omega (arith, cells, left, right)

  changed_so : (n : ℕ) → w.act n ≡ d → cells_after w (suc n) (entry_of o.entries e).cell ≡ (entry_of o.entries e).new
  changed_so n is =
      ap (λ (f : Ref). changed_by w f (w.size f) (cells_after w n) (entry_of o.entries e).cell) is
      ∙ ap (changed_by w d (w.size d) (cells_after w n)) (sym (so.targets e within))
      ∙ changed_at w d (w.size d) (cells_after w n) e rising (subst (λ (k : ℕ). e < k) (sym so.size) within)
      ∙ so.news e within

pub own_changes_are_read : OwnChangesAreRead
own_changes_are_read w z keep side world_tells es e word v then next fits within swaps read mine now =
    let same : then.worker ≡ next.worker = sym read.worker in
    let d : Ref = own_ref next v.next_number in
    let opened : OwnDesc = record { number = v.next_number; entries = es } in
    let spec = swaps.became.0 in
    let done : In (decided d succeeded) (keep next.worker).side.facts =
    subst (λ (u : View). In (decided d succeeded) u.side.facts) (sym now)
    (subst (λ (u : ℕ). In (decided (record { worker = u; number = v.next_number }) succeeded) next.side.facts) same (read.facts _ spec.result)) in
    let act = world_tells.order.made d (is_succeeded (w.control d) (world_tells.results next.worker d succeeded mine done)) in
    let so : IsOpenedSo w d opened = world_tells.opened next.worker opened mine
    (subst (λ (u : View). In opened u.opened) (sym now) (subst (In opened) (sym (read.opened ∙ spec.opened)) (inl refl))) in
    let tells = reads_tell w z keep side world_tells (entry_of es e).cell word then next [] (subst (λ (u : ℕ). u < z.workers) read.worker mine) read
    (ap (λ (u : ℕ). (keep u).side.reads) same ∙ ap (λ (u : View). u.side.reads) now) in
    let owner : (w.act act.0).worker ≡ next.worker = ap (λ (f : Ref). f.worker) act.2 in
    let number : (w.act act.0).number ≡ v.next_number = ap (λ (f : Ref). f.number) act.2 in
    let later : then.next_number ≡ suc v.next_number = spec.next_number in
    let earlier : act.0 < tells.acts = ⊎_elim (λ p. p) (λ no.
    let high = tells.prefix.high act.0 no act.1 (owner ∙ sym same) in
    absurd (let h : ⊥ = omega (arith, high, number, later) in h)) (cases_lt act.0 tells.acts) in
    let changed = changed_so w z d opened so fits e within act.0 act.2 in record {
      own = act.0;
      acts = tells.acts;
      act = act.2;
      earlier = earlier;
      changed = changed;
      holds = tells.holds;
      unless_other = λ only. ⊎_elim
          (λ (q : tells.acts ≡ suc act.0). sym tells.holds ∙ ap (λ (n : ℕ). cells_after w n (entry_of es e).cell) q ∙ changed)
          (λ (q : tells.acts ≢ suc act.0).
          let less : suc act.0 < tells.acts = omega (arith, q, earlier) in
          let count = tells.prefix.within in
          let its = only (suc act.0) (omega arith) less in
          let up = world_tells.order.ordered act.0 (suc act.0) (omega arith) (omega (arith, less, count)) (owner ∙ sym its) in
          let low = tells.prefix.low (suc act.0) less (its ∙ sym same) in
          absurd (let h : ⊥ = omega (arith, up, low, number, later) in h))
          (same_nat tells.acts (suc act.0));
    }
