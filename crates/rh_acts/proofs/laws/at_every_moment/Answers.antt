use Rattle.rh_acts.proofs.Chain.{insertions_grow, removals_shrink}
use Rattle.rh_acts.proofs.InOrder.{acts_are_a_phase}
use Rattle.rh_acts.proofs.laws.at_every_moment.Goals as goal

pub returns-clause-insert : goal.returns-clause-insert
returns-clause-insert c = insertions_grow

pub returns-clause-remove : goal.returns-clause-remove
returns-clause-remove c = removals_shrink

pub returns-clause-in_order : goal.returns-clause-in_order
returns-clause-in_order c = acts_are_a_phase
