use Rattle.rh_interleaving.proofs.Turning.{turned_so}
use Rattle.rh_interleaving.proofs.player.Player.turn.Goals as goal

pub returns : goal.returns
returns c = turned_so _ _ _ _ _ c.trace.ensures
