use Rattle.std.proofs.Common.{rules}
use Rattle.std.proofs.lemmas.Result.{err_from_is_err_and}
use Rattle.rh_numbers.proofs.Lines.{line_stops}
use Rattle.rh_numbers.proofs.writing.write_numbers.Goals as goal

pub returns-in_err-put_line : goal.returns-in_err-put_line
returns-in_err-put_line g c =
    let p = err_from_is_err_and c.from_residual.result c.from_residual.ensures.1 in
    rw p.1 (line_stops _ _ _ c.args.numbers.now c.loop-number.number-index (search rules) c.loop-number.invariant c.in_err-put_line.ensures)
