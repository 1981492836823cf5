use Rattle.rh_acts.proofs.SharedLaws.{rounds_are_one_phase, shared_list_is_one_list}
use Rattle.rh_acts.proofs.laws.rounds_and_shares.Goals as goal

pub returns-clause-rounds : goal.returns-clause-rounds
returns-clause-rounds c = rounds_are_one_phase

pub returns-clause-shares : goal.returns-clause-shares
returns-clause-shares c = shared_list_is_one_list
