use Rattle.rh_rule.proofs.StepLaw.{each_step_keeps}
use Rattle.rh_rule.proofs.laws.each_step_keeps.Goals as goal

pub returns : goal.returns
returns c = each_step_keeps
