use Rattle.rh_world.proofs.StepLaws.{runs_keep}
use Rattle.rh_world.proofs.laws.runs_keep.Goals as goal

pub returns : goal.returns
returns c = runs_keep
