use Rattle.rh_combine.proofs.RangeLaws.{of_all}
use Rattle.rh_combine.proofs.laws.all_in_range.Goals as goal

pub returns : goal.returns
returns c = of_all c.args.from c.args.to
