use Rattle.rh_lists.proofs.Agreeing.{agree}
use Rattle.rh_lists.proofs.laws.lists_agree.Goals as goal

pub returns : goal.returns
returns c = λ bytes left rest. agree bytes left rest c.args.first.now c.args.second.now
