use Rattle.rh_acts.proofs.PhaseLaws.{phase_is_of_joined_lists, answers_are_look_ups}
use Rattle.rh_acts.proofs.laws.finished_phase.Goals as goal

pub returns-clause-cells_and_tally : goal.returns-clause-cells_and_tally
returns-clause-cells_and_tally c = phase_is_of_joined_lists

pub returns-clause-answers : goal.returns-clause-answers
returns-clause-answers c = answers_are_look_ups
