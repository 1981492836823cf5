use Rattle.rh_kcas.proofs.Failing.{failures_tell}
use Rattle.rh_kcas.proofs.laws.failures_tell.Goals as goal

pub returns : goal.returns
returns c = failures_tell
