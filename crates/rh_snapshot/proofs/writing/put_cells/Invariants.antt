use Rattle.std.proofs.Common.{◌≡◌, ◌++◌, take}
use Rattle.rh_snapshot.specs.Snapshot.{spelled_numbers}
use Rattle.rh_snapshot.proofs.writing.put_cells.Given as goal

abbrev pub invariant-loop-cell : goal.invariant-loop-cell
invariant-loop-cell l = l.out.items ≡ l.fn.out.items ++ spelled_numbers (take l.cell-index l.cells)
