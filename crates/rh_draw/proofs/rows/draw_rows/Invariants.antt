use Rattle.rh_draw.specs.Rows.{at_first, row_lines}
use Rattle.rh_draw.proofs.Showing.{RowsDrawn}
use Rattle.rh_draw.proofs.rows.draw_rows.Given as goal

abbrev pub invariant-loop-record : goal.invariant-loop-record
invariant-loop-record l =
    let workers = l.view.shape.workers in
    RowsDrawn l.view.window workers l.records (row_lines l.view.window workers (at_first workers) l.records) l.record-index l.whose.items
    l.fn.canvas.out.items l.canvas.out.items
