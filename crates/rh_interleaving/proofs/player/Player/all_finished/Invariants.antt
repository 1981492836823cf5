use Rattle.std.proofs.Common.{take}
use Rattle.std.specs.Prelude.{All}
use Rattle.rh_turns.specs.Hands.{IsFinished}
use Rattle.rh_interleaving.proofs.player.Player.all_finished.Given as goal

abbrev pub invariant-loop-hand : goal.invariant-loop-hand
invariant-loop-hand l = All IsFinished (take l.hand-index l.hand-items)
