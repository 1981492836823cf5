use Rattle.rh_tagword.proofs.WordLemmas.{word_number_fits, word_in_is, word_number_one}
use Rattle.rh_tagword.proofs.laws.one_word.Goals as goal

pub returns-clause-fits : goal.returns-clause-fits
returns-clause-fits c = word_number_fits c.args.word c.requires

pub returns-clause-read : goal.returns-clause-read
returns-clause-read c n e = word_in_is n c.args.word e

pub returns-clause-one : goal.returns-clause-one
returns-clause-one c w h e = word_number_one w c.args.word h c.requires e
