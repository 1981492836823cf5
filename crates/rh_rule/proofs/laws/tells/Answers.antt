use Rattle.rh_rule.proofs.Telling.{tells}
use Rattle.rh_rule.proofs.laws.tells.Goals as goal

pub returns : goal.returns
returns c = tells
