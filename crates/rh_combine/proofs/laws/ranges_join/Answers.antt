use Rattle.rh_combine.proofs.RangeLaws.{of_two}
use Rattle.rh_combine.proofs.laws.ranges_join.Goals as goal

pub returns : goal.returns
returns c = of_two c.args.from c.args.middle c.args.to c.requires.first c.requires.second
