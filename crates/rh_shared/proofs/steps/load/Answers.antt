use Rattle.rh_shared.proofs.Allowing.{may_make}
use Rattle.rh_shared.proofs.steps.load.Goals as goal

pub load-requires : goal.load-requires
load-requires g c = may_make c.args.here.now g.B.Call.shape g.B.Call.view g.B.Call.step c.args.at _ c.requires
