use Rattle.rh_world.proofs.EndsKept.{new_round_meets}
use Rattle.rh_world.proofs.laws.new_round.Goals as goal

pub returns : goal.returns
returns c = new_round_meets
