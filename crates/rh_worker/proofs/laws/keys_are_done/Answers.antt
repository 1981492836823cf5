use Rattle.rh_worker.proofs.KeyLaws.{keys_are_done}
use Rattle.rh_worker.proofs.laws.keys_are_done.Goals as goal

pub returns : goal.returns
returns c = keys_are_done
