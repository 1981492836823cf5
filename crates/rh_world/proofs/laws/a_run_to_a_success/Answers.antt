use Rattle.rh_world.proofs.HelpedRun.{a_run_to_a_success}
use Rattle.rh_world.proofs.laws.a_run_to_a_success.Goals as goal

pub returns : goal.returns
returns c = a_run_to_a_success
