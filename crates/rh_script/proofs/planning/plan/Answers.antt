use Rattle.std.proofs.Common.{refl}
use Rattle.rh_script.proofs.planning.plan.Goals as goal

pub returns : goal.returns
returns c = (record { script = c.args.script }, refl, c.args.script.now.numbered)
