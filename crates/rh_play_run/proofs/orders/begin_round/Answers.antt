use Rattle.rh_play_run.proofs.Following.{a_round}
use Rattle.rh_play_run.proofs.orders.begin_round.Goals as goal

pub returns : goal.returns
returns c = a_round _ _ _ c.next_round.ensures.decides c.next_round.ensures.begins c.next_round.ensures.stays
