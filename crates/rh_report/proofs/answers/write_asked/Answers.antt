use Rattle.std.proofs.lemmas.Result.{err_from_is_err_and}
use Rattle.rh_bytes.proofs.Writing.{emitted_longer, emitted_then}
use Rattle.rh_report.specs.Texts.{asked_head, digits_from}
use Rattle.rh_report.proofs.answers.write_asked.Goals as goal

pub returns-in_err-write_head : goal.returns-in_err-write_head
returns-in_err-write_head g c =
    let p = err_from_is_err_and c.from_residual.result c.from_residual.ensures.1 in
    rw p.1 (emitted_longer _ _ (asked_head c.args.name.now c.args.answers.now) (digits_from 0 c.args.answers.now) c.in_err-write_head.ensures)

pub returns : goal.returns
returns g c =
    emitted_then _ _ _ (asked_head c.args.name.now c.args.answers.now) (digits_from 0 c.args.answers.now) _ c.in_ok-write_head.ensures c.write_answers.ensures
