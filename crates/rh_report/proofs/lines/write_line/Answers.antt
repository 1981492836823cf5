use Rattle.std.proofs.Common.{codes}
use Rattle.std.proofs.lemmas.Result.{err_from_is_err_and}
use Rattle.rh_bytes.proofs.Writing.{emitted_longer, emitted_then}
use Rattle.rh_report.specs.Texts.{front_text, numbers_as}
use Rattle.rh_report.proofs.lines.write_line.Goals as goal

pub returns-in_err-write_front : goal.returns-in_err-write_front
returns-in_err-write_front g c =
    let p = err_from_is_err_and c.from_residual.result c.from_residual.ensures.1 in
    rw p.1 (emitted_longer _ _ (front_text c.args.word.now c.args.name.now (numbers_as c.args.numbers.now)) (codes "\n") c.in_err-write_front.ensures)

pub returns : goal.returns
returns g c =
    emitted_then _ _ _ (front_text c.args.word.now c.args.name.now (numbers_as c.args.numbers.now)) (codes "\n") _ c.in_ok-write_front.ensures c.write_texts.ensures
