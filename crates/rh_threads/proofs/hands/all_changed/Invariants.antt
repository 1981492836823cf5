use Rattle.std.proofs.Common.{◌≡◌, ◌+◌, ◌<◌, length, min}
use Rattle.std.specs.Prelude.{◌-◌, ◌^◌}
use Rattle.rh_threads.specs.Rounds.{all_changed}
use Rattle.rh_threads.proofs.hands.all_changed.Given as goal

abbrev pub invariant-loop-hand : goal.invariant-loop-hand
invariant-loop-hand l = record {
  sum : min (l.changed + all_changed l.hands) (2 ^ 64 - 1) ≡ min (all_changed l.fn.hands) (2 ^ 64 - 1);
  fits : l.changed < 2 ^ 64;
}

abbrev pub decreases-loop-hand : goal.decreases-loop-hand
decreases-loop-hand l = length l.hands
