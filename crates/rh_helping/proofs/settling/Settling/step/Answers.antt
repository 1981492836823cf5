use Rattle.std.proofs.Common.{refl, sym, subst}
use Rattle.rh_words.specs.Steps.{Allowed, Step}
use Rattle.rh_helping.specs.Machine.{settling_of}
use Rattle.rh_helping.proofs.Requesting.{asked_made, made_settled, may_ask_mark, of_mark}
use Rattle.rh_helping.proofs.settling.Settling.step.Goals as goal

pub make-found-requires-clause-allowed : goal.make-found-requires-clause-allowed
make-found-requires-clause-allowed g c = subst (λ (s : Step). Allowed c.args.shape.now c.args.side.now.known.view s) (sym c.request-request.ensures)
    (may_ask_mark _ _ c.requires.relies.now.knows (settling_of c.args.self.now) c.requires.settling)

pub after-requires : goal.after-requires
after-requires g c =
    record { follows = (c.args.shape.now, (_, (_, made_settled c.args.shape.now _ _ _ _ _ c.requires.settling c.request-request.ensures c.make-found.ensures.finds c.make-found.ensures.view_is))) }

pub returns-clause-made : goal.returns-clause-made
returns-clause-made g c =
    let may = subst (λ (s : Step). Allowed c.args.shape.now c.args.side.now.known.view s) (sym c.request-request.ensures) (may_ask_mark _ _ c.requires.relies.now.knows (settling_of c.args.self.now) c.requires.settling) in
    asked_made _ _ _ _ _ _ _ _ _ _ (of_mark (settling_of c.args.self.now)) c.request-request.ensures refl may c.make-found.ensures

pub returns-clause-grows : goal.returns-clause-grows
returns-clause-grows g c =
    c.after.ensures.grows c.args.shape.now _ _ c.requires.owes (made_settled c.args.shape.now _ _ _ _ _ c.requires.settling c.request-request.ensures c.make-found.ensures.finds c.make-found.ensures.view_is)

pub returns-clause-leads : goal.returns-clause-leads
returns-clause-leads g c =
    c.after.ensures.leads c.args.shape.now _ _ (made_settled c.args.shape.now _ _ _ _ _ c.requires.settling c.request-request.ensures c.make-found.ensures.finds c.make-found.ensures.view_is)
