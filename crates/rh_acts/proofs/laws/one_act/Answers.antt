use Rattle.rh_acts.proofs.OneAct.{insert_act, remove_act, absence_act}
use Rattle.rh_acts.proofs.Changing.{answer_is_change}
use Rattle.rh_acts.proofs.laws.one_act.Goals as goal

pub returns-clause-insert : goal.returns-clause-insert
returns-clause-insert c = insert_act

pub returns-clause-remove : goal.returns-clause-remove
returns-clause-remove c = remove_act

pub returns-clause-absence : goal.returns-clause-absence
returns-clause-absence c = absence_act

pub returns-clause-is_change : goal.returns-clause-is_change
returns-clause-is_change c = answer_is_change
