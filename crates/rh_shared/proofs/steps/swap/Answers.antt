use Rattle.rh_shared.proofs.Allowing.{may_make}
use Rattle.rh_shared.proofs.steps.swap.Goals as goal

pub compare_exchange-requires : goal.compare_exchange-requires
compare_exchange-requires g c = may_make c.args.here.now g.B.Call.shape g.B.Call.view g.B.Call.step c.args.at _ c.requires
