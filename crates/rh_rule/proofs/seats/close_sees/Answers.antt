use Rattle.rh_rule.proofs.SeatsKept.{close_sees}
use Rattle.rh_rule.proofs.seats.close_sees.Goals as goal

pub returns : goal.returns
returns c = close_sees
