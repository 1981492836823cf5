use Rattle.std.proofs.Common.{◌≡◌, ◌<◌, length}
use Rattle.rh_layout.specs.Round.{cell_ahead}
use Rattle.rh_layout.proofs.LayoutLemmas.{at}
use Rattle.rh_edit.specs.Put.{IsPartPut}
use Rattle.rh_edit.proofs.insertion.push_on.Given as goal

abbrev pub invariant-loop-step : goal.invariant-loop-step
invariant-loop-step l = record {
  in_table : l.cell < length l.cells;
  reached : l.cell ≡ cell_ahead (length l.fn.cells) l.first l.step;
  part : IsPartPut (length l.fn.cells) l.first l.at l.step l.value l.carry (at l.fn.cells) (at l.cells);
}
