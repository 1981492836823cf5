use Rattle.rh_helping.specs.Opening.{HasWritten}
use Rattle.rh_swaps.proofs.Opened.{IsOnWay}
use Rattle.rh_swaps.proofs.swapping.open.Given as goal

abbrev pub invariant-loop-at : goal.invariant-loop-at
invariant-loop-at l = record {
  way : IsOnWay l.shape l.entries l.fn.here l.fn.side.known.view l.here l.side.known.view;
  written : HasWritten l.side.known.view l.entries l.at;
}
