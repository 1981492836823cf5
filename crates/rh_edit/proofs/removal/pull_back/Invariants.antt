use Rattle.std.proofs.Common.{◌≡◌, ◌<◌, length}
use Rattle.rh_layout.specs.Round.{cell_ahead}
use Rattle.rh_layout.specs.Order.{home_in}
use Rattle.rh_layout.proofs.LayoutLemmas.{at}
use Rattle.rh_edit.specs.Pull.{IsPartOut}
use Rattle.rh_edit.proofs.removal.pull_back.Given as goal

abbrev pub invariant-loop-step : goal.invariant-loop-step
invariant-loop-step l = record {
  in_table : l.cell < length l.cells;
  reached : l.cell ≡ cell_ahead (length l.fn.cells) l.first l.step;
  part : IsPartOut (length l.fn.cells) (home_in l.bits) l.first l.at l.step (at l.fn.cells) (at l.cells);
}
