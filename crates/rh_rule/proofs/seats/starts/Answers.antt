use Rattle.rh_rule.proofs.SeatsKept.{starts}
use Rattle.rh_rule.proofs.seats.starts.Goals as goal

pub returns : goal.returns
returns c = starts
