use Rattle.rh_questions.proofs.TallyLemmas.{tallies_two}
use Rattle.rh_questions.proofs.laws.tallies_join.Goals as goal

pub returns : goal.returns
returns c lists x = tallies_two c.args.from c.args.middle c.args.to c.requires.first c.requires.second lists x
