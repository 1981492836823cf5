use Rattle.rh_questions.proofs.SelectedLemmas.{made_chosen}
use Rattle.rh_questions.proofs.laws.made_by_rows.Goals as goal

pub returns : goal.returns
returns c how lists = made_chosen how lists
