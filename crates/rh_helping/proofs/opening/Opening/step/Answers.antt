use Rattle.rh_helping.proofs.Opens.{may_step, opening_leads, opening_made}
use Rattle.rh_helping.proofs.opening.Opening.step.Goals as goal

pub make-requires-clause-allowed : goal.make-requires-clause-allowed
make-requires-clause-allowed g c = may_step c.args.shape.now c.args.side.now.known.view c.args.entries.now c.requires.may c.requires.relies.now.knows c.args.self _ c.requires.opening c.request-request.ensures

pub returns-clause-made : goal.returns-clause-made
returns-clause-made g c = opening_made c.args.shape.now c.args.side.now.known.view c.args.entries.now c.requires.may c.args.self _ _ _ _ _ _ c.requires.relies.now.knows c.requires.opening c.request-request.ensures c.next.ensures c.make.ensures

pub returns-clause-leads : goal.returns-clause-leads
returns-clause-leads g c = opening_leads c.args.shape.now c.args.side.now.known.view c.args.entries.now c.requires.may c.args.self _ _ _ _ c.requires.opening c.request-request.ensures c.make.ensures.view_is c.next.ensures
