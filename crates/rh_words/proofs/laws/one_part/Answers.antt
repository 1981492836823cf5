use Rattle.rh_words.proofs.IndexLemmas.{same_part}
use Rattle.rh_words.proofs.laws.one_part.Goals as goal

pub returns : goal.returns
returns c = same_part c.args.shape.now
