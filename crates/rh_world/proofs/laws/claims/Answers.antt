use Rattle.rh_world.proofs.EndsKept.{claims_share_out}
use Rattle.rh_world.proofs.laws.claims.Goals as goal

pub returns : goal.returns
returns c = claims_share_out
