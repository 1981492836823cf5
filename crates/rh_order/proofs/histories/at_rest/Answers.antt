use Rattle.rh_order.proofs.Resting.{at_rest}
use Rattle.rh_order.proofs.histories.at_rest.Goals as goal

pub returns : goal.returns
returns c = at_rest
