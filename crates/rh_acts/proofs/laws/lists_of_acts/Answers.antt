use Rattle.rh_acts.proofs.ListLemmas.{meet_one_by_one, one_more_act, one_more_own, reads_stay_true}
use Rattle.rh_acts.proofs.laws.lists_of_acts.Goals as goal

pub returns-clause-one_by_one : goal.returns-clause-one_by_one
returns-clause-one_by_one c = meet_one_by_one

pub returns-clause-one_more : goal.returns-clause-one_more
returns-clause-one_more c = one_more_act

pub returns-clause-own : goal.returns-clause-own
returns-clause-own c = one_more_own

pub returns-clause-reads : goal.returns-clause-reads
returns-clause-reads c = reads_stay_true
