use Rattle.rh_layout.specs.Range.{stands}
use Rattle.rh_combine.proofs.RangeLaws.{answer_of}
use Rattle.rh_combine.proofs.laws.range_of_lists.Goals as goal

pub returns : goal.returns
returns c = answer_of (stands c.args.from c.args.to)
