use Rattle.rh_part_laws.proofs.States.{cut_all}
use Rattle.rh_part_laws.proofs.laws.parts_agree.Goals as goal

pub returns : goal.returns
returns c = cut_all
