use Rattle.rh_cutting.proofs.PartLemmas.{part_other, part_there}
use Rattle.rh_cutting.proofs.parts.Parts.put.Goals as goal

pub returns-in_err-push-clause-others : goal.returns-in_err-push-clause-others
returns-in_err-push-clause-others c = part_other (λ v. v.items) c.self.inside.parts.items c.args.self.now c.args.part c.push.new.self c.self.view_is

pub returns-clause-there : goal.returns-clause-there
returns-clause-there c =
    part_there (λ v. v.items) c.self.inside.parts.items c.args.self.now c.args.part c.push.new.self c.self.view_is c.index_mut-there.result.now c.args.number c.requires c.index_mut-there.ensures.value c.in_ok-push.ensures.items

pub returns-clause-others : goal.returns-clause-others
returns-clause-others c = part_other (λ v. v.items) c.self.inside.parts.items c.args.self.now c.args.part c.push.new.self c.self.view_is
