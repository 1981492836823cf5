use Rattle.rh_rule.proofs.SeatsKept.{looks_are_allowed}
use Rattle.rh_rule.proofs.seats.looks_are_allowed.Goals as goal

pub returns : goal.returns
returns c = looks_are_allowed
