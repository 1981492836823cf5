use Rattle.rh_kcas.proofs.OwnChanges.{own_changes_are_read}
use Rattle.rh_kcas.proofs.laws.own_changes_are_read.Goals as goal

pub returns : goal.returns
returns c = own_changes_are_read
