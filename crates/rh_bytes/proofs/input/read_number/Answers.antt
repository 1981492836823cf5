use Rattle.std.proofs.Common.{rules}
use Rattle.std.proofs.lemmas.Result.{err_from_is_err_and}
use Rattle.rh_bytes.proofs.Parts.{number_fails, number_is}
use Rattle.rh_bytes.proofs.input.read_number.Goals as goal

pub returns-in_err-read_bytes : goal.returns-in_err-read_bytes
returns-in_err-read_bytes g c =
    let p = err_from_is_err_and c.from_residual.result c.from_residual.ensures.1 in
    rw (p.1, p.2) (number_fails g.E.InputFault.short_fault c.read_bytes.new.buf (search rules) c.in_err-read_bytes.ensures)

pub returns : goal.returns
returns g c = number_is g.E.InputFault.short_fault c.read_bytes.new.buf (search rules) c.in_ok-read_bytes.ensures (search rules)
