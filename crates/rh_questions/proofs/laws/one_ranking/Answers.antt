use Rattle.rh_questions.proofs.RankingLemmas.{one_ranking}
use Rattle.rh_questions.proofs.laws.one_ranking.Goals as goal

pub returns : goal.returns
returns c counts first second few fits are are' = one_ranking counts few fits first second are are'
