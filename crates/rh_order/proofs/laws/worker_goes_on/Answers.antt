use Rattle.rh_order.proofs.Stepping.{worker_claims, worker_steps}
use Rattle.rh_order.proofs.Turning.{worker_starts, worker_turns}
use Rattle.rh_order.proofs.laws.worker_goes_on.Goals as goal

pub returns-clause-starts : goal.returns-clause-starts
returns-clause-starts c = worker_starts

pub returns-clause-steps : goal.returns-clause-steps
returns-clause-steps c = worker_steps

pub returns-clause-claims : goal.returns-clause-claims
returns-clause-claims c = worker_claims

pub returns-clause-turns : goal.returns-clause-turns
returns-clause-turns c = worker_turns
