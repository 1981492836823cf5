use Rattle.rh_rule.proofs.Telling.{rests}
use Rattle.rh_rule.proofs.laws.rests.Goals as goal

pub returns : goal.returns
returns c = rests
