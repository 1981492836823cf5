-- The steps of an opening, one after the other.
use Rattle.std.proofs.Common.{◌≡◌, ℕ, suc, ◌<◌, Option, Some, None, List, ◌∷◌, length, sym, subst, ap, arith, ◌∙◌}
use Rattle.std.specs.Prelude.{nat_lt}
use Rattle.std.proofs.lemmas.Bool.Decides.{nat_tests}
use Rattle.rh_layout.specs.declared.entry.Entry.{Entry}
use Rattle.rh_words.specs.declared.shape.Shape.{Shape}
use Rattle.rh_words.specs.declared.steps.StepKind.{StepKind}
use Rattle.rh_words.specs.View.{View}
use Rattle.rh_carrier.specs.Own.{KnowsOwn}
use Rattle.rh_carrier.specs.Relies.{Trusts}
use Rattle.rh_helping.specs.declared.opening.Opening.{Opening}
use Rattle.rh_helping.specs.declared.opening.Opening.TheVariants as opening
use Rattle.rh_helping.specs.Made.{HasMadeStep, HasStepped}
use Rattle.rh_helping.specs.Opening.{HasWritten, IsOpening, MayOpen, OpensOn, after_opening, next_own, opened_after}
use Rattle.rh_world.proofs.Tests.{by_cond}
use Rattle.rh_shared.specs.Sits.{Sits, Stays, SeatSteps, StaysTrusted}
use Rattle.rh_shared.specs.declared.on_table.OnTable.{OnTable}
use Rattle.rh_shared.proofs.Lending.{stays_on}
use Rattle.rh_swaps.specs.Swaps.{HasNoted, HasOpened}
use Rattle.rh_swaps.proofs.Noting.{made_notes, noted_on, step_opening, step_worker}

-- on the way from t, v to the Open
pub record IsOnWay (z : Shape) (es : List Entry) (t : OnTable) (v : View) (u : OnTable) (w : View) : Type 0 where
  pub trusts : Trusts Sits z u w
  pub may : MayOpen z w es
  pub stays : Stays t u
  pub noted : HasNoted v w

abbrev Makes : (z : Shape) (k : StepKind) (es : List Entry) (r : Option Opening) (u : OnTable) (w : View) (then : OnTable) (next : View) → Type 0
Makes z k es r u w then next = HasStepped Sits SeatSteps z k (opened_after w es r) w.side.reads u w then next

pub steps_on : {z : Shape} {k : StepKind} {es : List Entry} {t u then : OnTable} {v w next : View} (r : Option Opening) (o : Opening)
    → IsOnWay z es t v u w → HasStepped Sits SeatSteps z k (opened_after w es r) w.side.reads u w then next → OpensOn z es w next r → r ≡ Some o
    → IsOnWay z es t v then next × IsOpening next es o
steps_on {z} {k} {es} {t} {u} {then} {v} {w} {next} r o way made leads is =
    let m : HasMadeStep Sits SeatSteps z k u w then next = subst (λ (x : Option Opening). Makes z k es x u w then next) is made in
    let l : OpensOn z es w next (Some o) = subst (λ (x : Option Opening). OpensOn z es w next x) is leads in
    (record { trusts = m.trusts; may = l.0; stays = stays_on t u then way.stays m.steps.stays; noted = noted_on v w next way.noted (made_notes z k u w then next m) }, l.1)

pub new_on : {z : Shape} {k : StepKind} {es : List Entry} {t u then : OnTable} {v w next : View} (r : Option Opening) (e : ℕ) → e < length es
    → IsOnWay z es t v u w → HasStepped Sits SeatSteps z k (opened_after w es r) w.side.reads u w then next → OpensOn z es w next r → r ≡ after_opening (length es) (opening.New e)
    → IsOnWay z es t v then next × HasWritten next es (suc e)
new_on {z} {k} {es} {t} {u} {then} {v} {w} {next} r e less way made leads is =
    by_cond (λ (x : Option Opening). r ≡ x → IsOnWay z es t v then next × HasWritten next es (suc e)) (nat_lt (suc e) (length es)) _ _
    (λ yes same. let h = steps_on r (opening.Cell (suc e)) way made leads same in (h.0, h.1.1))
    (λ no same.
    let h = steps_on r opening.Open way made leads same in
    let all : length es ≡ suc e = grind (arith, nat_tests) in
    (h.0, subst (λ (n : ℕ). HasWritten next es n) all h.1))
    is

pub opens : {z : Shape} {k : StepKind} {es : List Entry} {t u then : OnTable} {v w next : View} (r : Option Opening)
    → IsOnWay z es t v u w → HasStepped Sits SeatSteps z k (opened_after w es r) w.side.reads u w then next → OpensOn z es w next r → r ≡ None
    → StaysTrusted z t then next × HasOpened v (next_own v es) next
opens {z} {k} {es} {t} {u} {then} {v} {w} {next} r way made leads is =
    let m : Makes z k es None u w then next = subst (λ (x : Option Opening). Makes z k es x u w then next) is made in
    let l : OpensOn z es w next None = subst (λ (x : Option Opening). OpensOn z es w next x) is leads in
    let h = way.noted in (
      record { stays = stays_on t u then way.stays m.steps.stays; trusts = m.trusts },
      record {
        worker = step_worker z w next m.step m.word m.view_is ∙ h.worker;
        opening = step_opening z w next m.step m.word m.view_is ∙ h.opening;
        facts = λ n i. m.facts n (h.facts n i);
        opened = m.opened ∙ (λ i. record { number = h.next_number i; entries = es } ∷ h.opened i);
        next_number = sym (l.0.last w.next_number l.0.current) ∙ ap suc h.next_number;
        reads = m.reads ∙ h.reads;
        claims = m.claims ∙ h.claims;
        knows = subst (λ (n : ℕ). KnowsOwn next (Some (record { number = n; entries = es }))) h.next_number l.0;
        owes = l.1;
      },
    )
