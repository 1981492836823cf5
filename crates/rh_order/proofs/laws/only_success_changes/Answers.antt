use Rattle.rh_order.proofs.Leaving.{only_success_changes}
use Rattle.rh_order.proofs.laws.only_success_changes.Goals as goal

pub returns : goal.returns
returns c = only_success_changes
