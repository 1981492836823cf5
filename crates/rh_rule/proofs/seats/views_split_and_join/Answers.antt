use Rattle.rh_rule.proofs.SeatsKept.{views_join, views_split}
use Rattle.rh_rule.proofs.seats.views_split_and_join.Goals as goal

pub returns-clause-split : goal.returns-clause-split
returns-clause-split c = views_split

pub returns-clause-join : goal.returns-clause-join
returns-clause-join c = views_join
