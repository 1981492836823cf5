use Rattle.rh_questions.proofs.SumLemmas.{add_up}
use Rattle.rh_questions.proofs.laws.tallies_add_up.Goals as goal

pub returns : goal.returns
returns c lists counts are = add_up lists counts are
