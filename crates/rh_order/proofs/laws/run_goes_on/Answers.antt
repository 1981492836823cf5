use Rattle.rh_order.proofs.Alike.{runs_alike}
use Rattle.rh_order.proofs.Turning.{run_rounds, run_starts}
use Rattle.rh_order.proofs.Stepping.{run_claims, run_gathers, run_steps}
use Rattle.rh_order.proofs.laws.run_goes_on.Goals as goal

pub returns-clause-starts : goal.returns-clause-starts
returns-clause-starts c = run_starts

pub returns-clause-steps : goal.returns-clause-steps
returns-clause-steps c = run_steps

pub returns-clause-claims : goal.returns-clause-claims
returns-clause-claims c = run_claims

pub returns-clause-rounds : goal.returns-clause-rounds
returns-clause-rounds c = run_rounds

pub returns-clause-gathers : goal.returns-clause-gathers
returns-clause-gathers c = run_gathers

pub returns-clause-alike : goal.returns-clause-alike
returns-clause-alike c = runs_alike
