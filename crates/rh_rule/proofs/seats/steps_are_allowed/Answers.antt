use Rattle.rh_rule.proofs.SeatsKept.{steps_are_allowed}
use Rattle.rh_rule.proofs.seats.steps_are_allowed.Goals as goal

pub returns : goal.returns
returns c = steps_are_allowed
