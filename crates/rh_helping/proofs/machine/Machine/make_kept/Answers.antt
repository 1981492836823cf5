use Rattle.std.proofs.Common.{◌≡◌, refl, subst, sym}
use Rattle.rh_words.specs.Steps.{Allowed, Step, noted}
use Rattle.rh_helping.specs.Machine.{work_at}
use Rattle.rh_helping.specs.Next.{Work}
use Rattle.rh_helping.specs.Next.StageOutcome.{On}
use Rattle.rh_helping.specs.Work.{Leads}
use Rattle.rh_helping.proofs.Kept.{kept_leads, may_keep}
use Rattle.rh_helping.proofs.Requesting.{asked_made, of_work}
use Rattle.rh_helping.proofs.machine.Machine.make_kept.Goals as goal

pub make-found-requires-clause-allowed : goal.make-found-requires-clause-allowed
make-found-requires-clause-allowed g c = subst (λ (s : Step). Allowed c.args.shape.now c.args.side.now.known.view s) (sym c.kept_request-request.ensures)
    (may_keep _ _ c.requires.relies.now.knows (work_at c.args.at c.args.self.now) c.requires.kept c.requires.stands)

pub returns-clause-made : goal.returns-clause-made
returns-clause-made g c =
    let v = c.args.side.now.known.view in
    let may = subst (λ (s : Step). Allowed c.args.shape.now v s) (sym c.kept_request-request.ensures) (may_keep _ _ c.requires.relies.now.knows (work_at c.args.at c.args.self.now) c.requires.kept c.requires.stands) in
    asked_made _ _ _ _ _ _ _ _ _ _ (of_work v (work_at c.args.at c.args.self.now)) c.kept_request-request.ensures refl may c.make-found.ensures

pub returns-clause-leads : goal.returns-clause-leads
returns-clause-leads g c = λ opens own.
    let z = c.args.shape.now in
    let v = c.args.side.now.known.view in
    let word = c.make-found.result in
    let next = c.make-found.new.side.known.view in
    let view_is = subst (λ (s : Step). next ≡ noted z v s word) c.kept_request-request.ensures c.make-found.ensures.view_is in
    subst (λ (w : Work). Leads z next opens (On w)) (sym c.keep.ensures) (kept_leads z v opens own word (work_at c.args.at c.args.self.now) c.requires.kept c.requires.stands next view_is)
