use Rattle.rh_kcas.proofs.ReadsBack.{reads_tell}
use Rattle.rh_kcas.proofs.laws.reads_tell.Goals as goal

pub returns : goal.returns
returns c = reads_tell
