use Rattle.std.proofs.Common.{sym, subst}
use Rattle.rh_words.specs.Steps.{Allowed, Step}
use Rattle.rh_helping.specs.Machine.{work_at}
use Rattle.rh_helping.proofs.Requesting.{asked_made, may_request, of_work}
use Rattle.rh_helping.proofs.machine.Machine.make.Goals as goal

pub make-found-requires-clause-allowed : goal.make-found-requires-clause-allowed
make-found-requires-clause-allowed g c = subst (λ (s : Step). Allowed c.args.shape.now c.args.side.now.known.view s) (sym (c.request-request.ensures c.args.side.now.known.view))
    (may_request _ _ c.requires.relies.now.knows _ c.requires.own (work_at g.S.Stage.at c.args.self.now) c.requires.stands)

pub returns : goal.returns
returns g c =
    let v = c.args.side.now.known.view in
    let may = subst (λ (s : Step). Allowed c.args.shape.now v s) (sym (c.request-request.ensures v)) (may_request _ _ c.requires.relies.now.knows _ c.requires.own (work_at g.S.Stage.at c.args.self.now) c.requires.stands) in record {
      made = asked_made _ _ _ _ _ _ _ _ _ _ (of_work v (work_at g.S.Stage.at c.args.self.now)) (c.request-request.ensures v) c.after.ensures.same may c.make-found.ensures;
      leads = c.after.ensures.leads;
      ends = c.after.ensures.ends;
    }
