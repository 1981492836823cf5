use Rattle.rh_script_run.proofs.ReadLemmas.{only_what_is_read}
use Rattle.rh_script_run.proofs.laws.only_what_is_read_matters.Goals as goal

pub returns : goal.returns
returns c = only_what_is_read
