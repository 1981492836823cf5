use Rattle.rh_order.proofs.Happening.{order_of_acts}
use Rattle.rh_order.proofs.histories.order_of_acts.Goals as goal

pub returns : goal.returns
returns c = order_of_acts
