use Rattle.rh_carrier.proofs.Relying.{workers_may_rely}
use Rattle.rh_carrier.proofs.laws.workers_rely.Goals as goal

pub returns : goal.returns
returns c = workers_may_rely
