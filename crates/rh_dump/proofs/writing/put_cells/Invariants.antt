use Rattle.std.proofs.Common.{take}
use Rattle.rh_dump.specs.Dump.{lines_from}
use Rattle.rh_bytes.specs.Counting.{Emitted}
use Rattle.rh_dump.proofs.writing.put_cells.Given as goal

abbrev pub invariant-loop-cell : goal.invariant-loop-cell
invariant-loop-cell g l = Emitted g.W.Write.contents l.fn.writer l.writer (lines_from l.bits 0 (take l.cell l.cells))
