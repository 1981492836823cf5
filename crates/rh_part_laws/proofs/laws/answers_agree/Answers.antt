use Rattle.rh_combine.proofs.RangeLaws.{answer_of}
use Rattle.rh_part_laws.proofs.laws.answers_agree.Goals as goal

pub returns : goal.returns
returns c = answer_of
