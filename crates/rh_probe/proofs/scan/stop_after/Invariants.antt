use Rattle.std.proofs.Common.{ℕ, ◌<◌, ◌^◌, get_or}
use Rattle.rh_layout.specs.Round.{cell_ahead}
use Rattle.rh_probe.specs.Segment.{IsAway}
use Rattle.rh_probe.proofs.scan.stop_after.Given as goal

abbrev pub invariant-loop-j : goal.invariant-loop-j
invariant-loop-j l = (p : ℕ) → l.i < p → p < l.j → IsAway l.bits (cell_ahead (2 ^ l.bits) l.cell p) (get_or l.seen p 0)
