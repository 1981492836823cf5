use Rattle.std.proofs.Common.{rules, get_or}
use Rattle.std.proofs.lemmas.Result.{err_from_is_err_and}
use Rattle.rh_bytes.proofs.Writing.{emitted_none}
use Rattle.rh_dump.proofs.Written.{cells-stop, cells-go-on, cell-empty, cell-full}
use Rattle.rh_dump.proofs.writing.put_cells.Goals as goal
use Rattle.rh_dump.proofs.writing.put_cells.Goals.{in-Some+in_ok-put_line, in_default}

pub returns-in_err-put_line : goal.returns-in_err-put_line
returns-in_err-put_line g c =
    let p = err_from_is_err_and c.from_residual.result c.from_residual.ensures.1 in
    rw p.1 (cells-stop _ _ _ c.args.bits c.args.cells.now c.loop-cell.cell _ (search rules) (cell-full c.args.bits c.loop-cell.cell (get_or c.args.cells.now c.loop-cell.cell 0) c.in-Some.key c.in-Some.ensures) c.loop-cell.invariant c.in_err-put_line.ensures)

pub loop-cell-preserved : goal.loop-cell-preserved
loop-cell-preserved g c =
    let value = get_or c.args.cells.now c.loop-cell.cell 0 in
    elim c.match-key_in.branch [
      | in-Some+in_ok-put_line w ↦
          rw w.writer-is (cells-go-on _ _ _ c.args.bits c.args.cells.now c.loop-cell.cell _ (search rules) (cell-full c.args.bits c.loop-cell.cell value w.in-Some.key w.in-Some.ensures) c.loop-cell.invariant w.in_ok-put_line.ensures)
      | in_default w ↦
          rw w.writer-is (cells-go-on _ _ _ c.args.bits c.args.cells.now c.loop-cell.cell _ (search rules) (cell-empty c.args.bits c.loop-cell.cell value (search rules)) c.loop-cell.invariant (emitted_none _))
    ]
