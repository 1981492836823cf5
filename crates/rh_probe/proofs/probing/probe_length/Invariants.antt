use Rattle.std.proofs.Common.{◌≡◌, ◌<◌, ◌^◌}
use Rattle.rh_layout.specs.Round.{cell_ahead}
use Rattle.rh_layout.specs.Order.{home_of}
use Rattle.rh_probe.proofs.ProbeLemmas.{IsPassed}
use Rattle.rh_probe.proofs.probing.probe_length.Given as goal

abbrev pub invariant-loop-i : goal.invariant-loop-i
invariant-loop-i l = record {
  in_table : l.cell < 2 ^ l.bits;
  at : l.cell ≡ cell_ahead (2 ^ l.bits) (home_of l.bits l.key) l.i;
  passed : IsPassed l.bits l.cells l.key l.i;
}
