use Rattle.rh_shared.proofs.Allowing.{may_look}
use Rattle.rh_shared.proofs.steps.look.Goals as goal

pub load-requires : goal.load-requires
load-requires g c = may_look c.args.here.now g.B.Call.shape g.B.Call.view g.B.Call.step c.args.at _ c.requires.ready c.requires.reads
