use Rattle.rh_rule.proofs.SeatsKept.{all_may_wipe}
use Rattle.rh_rule.proofs.seats.all_may_wipe.Goals as goal

pub returns : goal.returns
returns c = all_may_wipe
