use Rattle.rh_questions.specs.ByNumber.{selected_by_number}
use Rattle.rh_questions.specs.Selections.{wants}
use Rattle.rh_questions.proofs.SelectedLemmas.{chosen_has}
use Rattle.rh_questions.proofs.laws.members.Goals as goal

pub returns-clause-listed : goal.returns-clause-listed
returns-clause-listed c selection lists k = chosen_has (wants selection) lists k

pub returns-clause-rising : goal.returns-clause-rising
returns-clause-rising c selection lists = (selected_by_number selection).rises lists
