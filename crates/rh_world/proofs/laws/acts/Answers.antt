use Rattle.rh_world.proofs.EndsKept.{one_order}
use Rattle.rh_world.proofs.laws.acts.Goals as goal

pub returns : goal.returns
returns c = one_order
