use Rattle.rh_script_run.proofs.MeantLemmas.{ends_as_meant}
use Rattle.rh_script_run.proofs.laws.ends_as_meant.Goals as goal

pub returns : goal.returns
returns c = ends_as_meant
