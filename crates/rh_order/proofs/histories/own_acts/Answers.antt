use Rattle.rh_order.proofs.Succeeding.{own_so_far}
use Rattle.rh_order.proofs.Finishing.{steps_finish}
use Rattle.rh_order.proofs.Ordered.{kept_is_orderly}
use Rattle.rh_order.proofs.histories.own_acts.Goals as goal

pub returns-clause-steps : goal.returns-clause-steps
returns-clause-steps c = steps_finish

pub returns-clause-kept : goal.returns-clause-kept
returns-clause-kept c = kept_is_orderly

pub returns-clause-so_far : goal.returns-clause-so_far
returns-clause-so_far c = own_so_far
