-- The opening of an own descriptor whose entries do a key.
use Rattle.std.proofs.Common.{◌≡◌, ℕ, zero, suc, ◌^◌, ◌<◌, Bool, true, false, Some, None, List, [], ◌∷◌, length, get_or, length-take-le, refl, sym, ap, ◌∙◌, subst, inl, arith}
use Rattle.std.proofs.lemmas.List.Elements.{Contains-get_or}
use Rattle.rh_ledger.specs.declared.tally.Kind.{Kind}
use Rattle.rh_ledger.specs.declared.tally.Kind.TheVariants.{Insert, Remove, Ask}
use Rattle.rh_acts.specs.Done.{Does}
use Rattle.rh_layout.specs.declared.entry.Entry.{Entry}
use Rattle.rh_acts.specs.Act.{IsRising}
use Rattle.rh_world.specs.World.{In}
use Rattle.rh_world.specs.Facts.Fact.{known}
use Rattle.rh_order.specs.History.{act_of}
use Rattle.rh_words.specs.declared.shape.Shape.{Shape}
use Rattle.rh_words.specs.View.{OwnDesc, View}
use Rattle.rh_words.specs.Words.{IsPlain}
use Rattle.rh_words.specs.Steps.{AreEntries, entry_of}
use Rattle.rh_carrier.specs.Own.{KnowsOwn}
use Rattle.rh_helping.specs.Opening.{MayOpen, OpensOn}
use Rattle.rh_helping.specs.Next.{Work}
use Rattle.rh_helping.specs.Next.{Work as work}
use Rattle.rh_helping.specs.declared.machine.Machine.{Machine}
use Rattle.rh_helping.specs.Machine.{work_of}
use Rattle.rh_helping.specs.Work.{Stands}
use Rattle.rh_helping.proofs.Owing.{open_all_noted}
use Rattle.rh_helping.proofs.OwnRows.{entry_is}
use Rattle.rh_worker.specs.declared.stage.Plan.{Plan}
use Rattle.rh_worker.specs.declared.stage.KeyStage.TheVariants as stage
use Rattle.rh_worker.specs.declared.scan_buffer.ScanBuffer.{ScanBuffer}
use Rattle.rh_worker.specs.Deciding.{AreFit}
use Rattle.rh_worker.specs.Worker.{IsPlanned, Stays, planned}

-- ---- the entries

pub rising_of : (kind : Kind) (b k : ℕ) (changes : Bool) (act : List Entry) → Does kind b k changes act → IsRising act
rising_of Insert b k true act d = d.1.front.rising
rising_of Insert b k false act d = absurd d
rising_of Remove b k true act d = d.1.front.rising
rising_of Remove b k false act d = d.1.front.rising
rising_of Ask b k changes act d = absurd d

nothing : Entry
nothing = record { cell = 0; old = 0; new = 0 }

act_cell : (es : List Entry) (e : ℕ) → e < length es → (get_or (act_of es) e nothing).cell ≡ (entry_of es e).cell
act_cell [] e l = absurd (omega arith)
act_cell (x ∷ es) zero l = refl
act_cell (x ∷ es) (suc e) l = act_cell es e (omega arith)

act_size : (es : List Entry) → length (act_of es) ≡ length es
act_size [] = refl
act_size (x ∷ es) = ap suc (act_size es)

pub are_entries : (z : Shape) (es : List Entry) → 0 < length es → IsRising (act_of es) → AreFit z.bits es → AreEntries z es
are_entries z es more rising fit =
    let is_fit = λ (e : ℕ) (l : e < length es). subst (λ (x : Entry). (x.cell < 2 ^ z.bits) × IsPlain x.old × IsPlain x.new) (sym (entry_is es e nothing l)) (fit (get_or es e nothing) (Contains-get_or es e nothing l)) in
    record {
      some = more;
      rising = λ e f l m.
          let a = act_cell es e (omega arith) in
          let b = act_cell es f m in
          let less = rising e f nothing l (omega (arith, act_size es)) in
          omega (arith, a, b, less);
      cells = λ e l. (is_fit e l).0;
      olds = λ e l. (is_fit e l).1;
      news = λ e l. (is_fit e l).2;
    }

-- ---- the opening

module _ (z : Shape) (v : View) (kind : Kind) (k : ℕ) (s : ScanBuffer) (p : Plan) (planned_is : IsPlanned z v kind k s p) (es : List Entry) (same : es ≡ planned s p) where
  size : length es ≡ p.entries
  size = ap length same ∙ length-take-le p.entries s.entries.items planned_is.plan.within

  pub may_open : MayOpen z v es
  may_open =
      let some = planned_is.plan.some in
      record {
        owns = planned_is.owns;
        owes = planned_is.owes;
        entries = are_entries z es (omega (arith, size)) (rising_of kind z.bits k p.changes (act_of es) (subst (λ (l : List Entry). Does kind z.bits k p.changes (act_of l)) (sym same) planned_is.plan.act))
            (subst (AreFit z.bits) (sym same) planned_is.plan.fit);
        room = planned_is.room;
      }

  module _ (next : View) where
    module _ (worker number : ℕ) (by : next.worker ≡ worker) (of : v.next_number ≡ number) (on : OpensOn z es v next None) where
      pub opened_stays : (m : Machine) → work_of m ≡ work.Control (record { worker = worker; number = number }) → Stays z next kind k s m (stage.Swap number p)
      opened_stays m is =
          let own : KnowsOwn next (Some (record { number = number; entries = planned s p })) = subst (λ (d : OwnDesc). KnowsOwn next (Some d)) (λ i. record { number = of i; entries = same i }) on.0 in
          (own, subst (λ (w : Work). Stands z next w) (sym is) (on.1, inl (inl (subst (λ (w : ℕ). In (known (record { worker = w; number = number })) next.side.facts) by (open_all_noted next _ own).known))), planned_is.plan)
