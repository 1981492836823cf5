use Rattle.rh_order.proofs.Answering.{run_answers}
use Rattle.rh_order.proofs.Standing.{run_moment}
use Rattle.rh_order.proofs.Saying.{logical_words, words_lead_inside, words_stand}
use Rattle.rh_order.proofs.laws.run_stands.Goals as goal

pub returns-clause-words : goal.returns-clause-words
returns-clause-words c = logical_words

pub returns-clause-stand : goal.returns-clause-stand
returns-clause-stand c = words_stand

pub returns-clause-moment : goal.returns-clause-moment
returns-clause-moment c = run_moment

pub returns-clause-inside : goal.returns-clause-inside
returns-clause-inside c = words_lead_inside

pub returns-clause-answers : goal.returns-clause-answers
returns-clause-answers c = run_answers
