use Rattle.rh_world.proofs.EndsKept.{rest_is_settled}
use Rattle.rh_world.proofs.laws.at_rest.Goals as goal

pub returns : goal.returns
returns c = rest_is_settled
