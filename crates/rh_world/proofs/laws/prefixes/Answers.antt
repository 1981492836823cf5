use Rattle.rh_world.proofs.EndsKept.{prefixes_say}
use Rattle.rh_world.proofs.laws.prefixes.Goals as goal

pub returns : goal.returns
returns c = prefixes_say
