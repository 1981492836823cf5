use Rattle.std.proofs.Common.{◌≡◌, map, take}
use Rattle.rh_interleaving.specs.Made.{cut, total}
use Rattle.rh_interleaving.proofs.player.Player.tally.Given as goal

abbrev pub invariant-loop-hand : goal.invariant-loop-hand
invariant-loop-hand l = record {
  done : l.done ≡ cut (total (map (λ h. h.done) (take l.hand-index l.hand-items)));
  changed : l.changed ≡ cut (total (map (λ h. h.changed) (take l.hand-index l.hand-items)));
}
