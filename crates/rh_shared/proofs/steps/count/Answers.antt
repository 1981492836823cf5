use Rattle.rh_shared.proofs.Allowing.{may_make}
use Rattle.rh_shared.proofs.steps.count.Goals as goal

pub fetch_add-requires : goal.fetch_add-requires
fetch_add-requires g c = may_make c.args.here.now g.B.Call.shape g.B.Call.view g.B.Call.step c.args.at _ c.requires
