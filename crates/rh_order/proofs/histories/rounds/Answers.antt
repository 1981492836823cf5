use Rattle.rh_order.proofs.Joining.{rounds_begin, rounds_follow, rounds_join}
use Rattle.rh_order.proofs.histories.rounds.Goals as goal

pub returns-clause-begin : goal.returns-clause-begin
returns-clause-begin c = rounds_begin

pub returns-clause-follow : goal.returns-clause-follow
returns-clause-follow c = rounds_follow

pub returns-clause-join : goal.returns-clause-join
returns-clause-join c = rounds_join
