use Rattle.std.proofs.Common.{◌≡◌, ◌++◌}
use Rattle.rh_draw.specs.Changes.{entry_cells}
use Rattle.rh_draw.proofs.changes.list_entries.Given as goal

abbrev pub invariant-loop-entry : goal.invariant-loop-entry
invariant-loop-entry l = l.cells.items ≡ l.fn.cells.items ++ entry_cells l.shape l.words l.worker l.entry
