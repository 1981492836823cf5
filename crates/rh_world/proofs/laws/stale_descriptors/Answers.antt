use Rattle.rh_world.proofs.Passing.{later_ones_tell}
use Rattle.rh_world.proofs.laws.stale_descriptors.Goals as goal

pub returns : goal.returns
returns c = later_ones_tell
