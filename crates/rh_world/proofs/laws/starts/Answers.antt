use Rattle.rh_world.proofs.EndsKept.{start_meets}
use Rattle.rh_world.proofs.laws.starts.Goals as goal

pub returns : goal.returns
returns c = start_meets
