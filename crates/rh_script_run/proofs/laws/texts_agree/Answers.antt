use Rattle.rh_script_run.proofs.AgreeLemmas.{front_of_whole, fronts_agree}
use Rattle.rh_script_run.proofs.laws.texts_agree.Goals as goal

pub returns-clause-fronts : goal.returns-clause-fronts
returns-clause-fronts c = fronts_agree

pub returns-clause-whole : goal.returns-clause-whole
returns-clause-whole c = front_of_whole
