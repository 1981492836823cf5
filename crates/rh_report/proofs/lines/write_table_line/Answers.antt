use Rattle.std.proofs.Common.{◌≡◌, [], rules}
use Rattle.std.proofs.lemmas.Result.{err_from_is_err_and}
use Rattle.rh_bytes.proofs.Writing.{emitted_longer, emitted_then}
use Rattle.rh_report.specs.Texts.{front_text, line_text, numbers_as, table_numbers}
use Rattle.rh_report.proofs.LineLemmas.{line_more}
use Rattle.rh_report.proofs.lines.write_table_line.Goals as goal

pub returns-in_err-write_front : goal.returns-in_err-write_front
returns-in_err-write_front g c =
    let p = err_from_is_err_and c.from_residual.result c.from_residual.ensures.1 in
    let numbers = numbers_as c.args.numbers.now in
    let table = table_numbers c.args.table.held c.args.table.bits in
    rw (p.1, line_more c.args.word.now c.args.name.now numbers table) (emitted_longer _ _ (front_text c.args.word.now c.args.name.now numbers) (line_text [] [] table) c.in_err-write_front.ensures)

pub returns : goal.returns
returns g c =
    let numbers = numbers_as c.args.numbers.now in
    let bits : c.args.table.bits ≡ c.into.result = search rules in
    let table = table_numbers c.args.table.held c.into.result in
    rw (bits, line_more c.args.word.now c.args.name.now numbers table) (emitted_then _ _ _ (front_text c.args.word.now c.args.name.now numbers) (line_text [] [] table) _ c.in_ok-write_front.ensures c.write_line.ensures)
