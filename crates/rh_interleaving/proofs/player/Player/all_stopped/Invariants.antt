use Rattle.std.proofs.Common.{take}
use Rattle.std.specs.Prelude.{All}
use Rattle.rh_interleaving.specs.Turned.{IsStopped}
use Rattle.rh_interleaving.proofs.player.Player.all_stopped.Given as goal

abbrev pub invariant-loop-hand : goal.invariant-loop-hand
invariant-loop-hand l = All IsStopped (take l.hand-index l.hand-items)
