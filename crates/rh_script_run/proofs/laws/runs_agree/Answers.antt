use Rattle.rh_script_run.proofs.AgreeLemmas.{runs_agree}
use Rattle.rh_script_run.proofs.laws.runs_agree.Goals as goal

pub returns : goal.returns
returns c = runs_agree
