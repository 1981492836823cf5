-- What a worker has noted, from step to step.
use Rattle.std.proofs.Common.{◌≡◌, ℕ, suc, Some, refl, ap, ◌∙◌, sym, subst, List, ◌∷◌, length, arith}
use Rattle.rh_words.specs.declared.shape.Shape.{Shape}
use Rattle.rh_words.specs.declared.steps.StepKind.{StepKind}
use Rattle.rh_words.specs.View.{OwnDesc, View, own_ref}
use Rattle.rh_words.specs.Steps.{Step, noted}
use Rattle.rh_rule.proofs.SeatsKept.{noted_opening, noted_worker}
use Rattle.rh_helping.specs.declared.machine.Ended.{Ended}
use Rattle.rh_helping.specs.Made.{HasMadeStep}
use Rattle.rh_helping.specs.Next.{Work}
use Rattle.rh_helping.specs.Next.StageOutcome.{Closed}
use Rattle.rh_helping.specs.Stepping.{HasGoneOn}
use Rattle.rh_helping.specs.Work.{FailsWithin, HasEnded}
use Rattle.rh_shared.specs.Sits.{Sits, Stays, SeatSteps}
use Rattle.rh_shared.specs.declared.on_table.OnTable.{OnTable}
use Rattle.rh_shared.proofs.Lending.{stays_on}
use Rattle.rh_swaps.specs.Swaps.{HasCarriedOut, HasNoted}

pub noted_first : (v : View) → HasNoted v v
noted_first v = record { worker = refl; opening = refl; facts = λ n i. i; opened = refl; next_number = refl; reads = refl; claims = refl }

pub noted_on : (u v w : View) → HasNoted u v → HasNoted v w → HasNoted u w
noted_on u v w a b = record {
  worker = b.worker ∙ a.worker;
  opening = b.opening ∙ a.opening;
  facts = λ n i. b.facts n (a.facts n i);
  opened = b.opened ∙ a.opened;
  next_number = b.next_number ∙ a.next_number;
  reads = b.reads ∙ a.reads;
  claims = b.claims ∙ a.claims;
}

pub step_worker : (z : Shape) (v next : View) (s : Step) (word : ℕ) → next ≡ noted z v s word → next.worker ≡ v.worker
step_worker z v next s word is = ap (λ (n : View). n.worker) is ∙ noted_worker z v s word

pub step_opening : (z : Shape) (v next : View) (s : Step) (word : ℕ) → next ≡ noted z v s word → next.opening ≡ v.opening
step_opening z v next s word is = ap (λ (n : View). n.opening) is ∙ noted_opening z v s word

-- a step that opens no descriptor leaves the number of the next one
no_longer : (o : OwnDesc) (os : List OwnDesc) → o ∷ os ≡ os → ⊥
no_longer o os e = let q : suc (length os) ≡ length os = ap length e in omega (arith, q)

noted_number : (z : Shape) (v : View) (s : Step) (word : ℕ) → (noted z v s word).opened ≡ v.opened → (noted z v s word).next_number ≡ v.next_number
noted_number z v (Step.writes p u) word same = refl
noted_number z v (Step.opens size) word same = absurd (no_longer _ v.opened same)
noted_number z v (Step.reads r) word same = refl
noted_number z v (Step.places d e c old) word same = refl
noted_number z v (Step.settles x c d e old) word same = refl
noted_number z v (Step.decides d k) word same = refl
noted_number z v (Step.releases d e c k value) word same = refl
noted_number z v Step.claims word same = refl

pub step_number : (z : Shape) (v next : View) (s : Step) (word : ℕ) → next ≡ noted z v s word → next.opened ≡ v.opened → next.next_number ≡ v.next_number
step_number z v next s word is same = ap (λ (n : View). n.next_number) is ∙ noted_number z v s word (ap (λ (n : View). n.opened) (sym is) ∙ same)

pub made_notes : {T : Type 0} {shows : Shape → T → View → Type 0} {makes : Shape → Step → T → View → ℕ → T → View → Type 0} (z : Shape) (k : StepKind) (t : T) (v : View) (then : T) (next : View) → HasMadeStep shows makes z k t v then next → HasNoted v next
made_notes z k t v then next m = record {
  worker = step_worker z v next m.step m.word m.view_is;
  opening = step_opening z v next m.step m.word m.view_is;
  facts = m.facts;
  opened = m.opened;
  next_number = step_number z v next m.step m.word m.view_is m.opened;
  reads = m.reads;
  claims = m.claims;
}

-- the own descriptor that was closed is the one that was open
closed_is : (own desc : OwnDesc) → Some own ≡ Some desc → desc ≡ own
closed_is own desc is = let e : own ≡ desc = cc in sym e

-- it is closed by a step, after others
pub closes : {z : Shape} {own : OwnDesc} {t u then : OnTable} {v w next : View} {x : Work} {k : Ended} → Stays t u → HasNoted v w → HasGoneOn Sits SeatSteps z (Some own) x u w (Closed k) then next → HasCarriedOut z own t v k then next
closes {z} {own} {t} {u} {then} {v} {w} {next} {x} {k} stays noted e =
    let l = e.leads.2 in
    let same = closed_is own e.leads.0 e.leads.1 in record {
      stays = record { stays = stays_on _ _ _ stays e.made.steps.stays; trusts = e.made.trusts };
      rule_tells = e.made.steps.rule_tells;
      noted = noted_on v w next noted (made_notes z _ u w then next e.made);
      clear = record { own = l.own; owes = l.owes };
      result = subst (λ (o : OwnDesc). HasEnded next (own_ref next o.number) k) same l.result;
      entry = subst (λ (o : OwnDesc). FailsWithin (length o.entries) k) same l.entry;
    }
