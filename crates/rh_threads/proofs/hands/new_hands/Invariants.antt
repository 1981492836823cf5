use Rattle.std.proofs.Common.{◌≤◌, All, length}
use Rattle.std.specs.Prelude.{◌-◌}
use Rattle.rh_threads.specs.Made.{IsNew}
use Rattle.rh_threads.proofs.hands.new_hands.Given as goal

abbrev pub invariant-loop-alloc : goal.invariant-loop-alloc
invariant-loop-alloc l = record {
  within : length l.hands ≤ l.shape.workers;
  each : All (IsNew l.shape l.kind l.positions) l.hands;
}

abbrev pub decreases-loop-alloc : goal.decreases-loop-alloc
decreases-loop-alloc l = l.shape.workers - length l.hands
