use Rattle.rh_acts.proofs.DoneLemmas.{one_more, more_read}
use Rattle.rh_acts.proofs.Changing.{answers_count_changes}
use Rattle.rh_acts.proofs.laws.done_keys.Goals as goal

pub returns-clause-one_more : goal.returns-clause-one_more
returns-clause-one_more c = one_more

pub returns-clause-more_read : goal.returns-clause-more_read
returns-clause-more_read c = more_read

pub returns-clause-answers : goal.returns-clause-answers
returns-clause-answers c = answers_count_changes
