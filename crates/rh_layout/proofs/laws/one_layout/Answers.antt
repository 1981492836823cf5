use Rattle.rh_layout.proofs.OneLayout.{one_layout_of}
use Rattle.rh_layout.proofs.laws.one_layout.Goals as goal

pub returns : goal.returns
returns c S first second free = one_layout_of c.args.first.now c.args.second.now c.args.bits S first second free
