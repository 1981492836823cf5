use Rattle.rh_order.proofs.Moving.{no_key_is_lost}
use Rattle.rh_order.proofs.laws.no_key_is_lost.Goals as goal

pub returns : goal.returns
returns c = no_key_is_lost
