use Rattle.std.proofs.Common.{[], ◌++◌, rules, subst, take}
use Rattle.rh_bytes.specs.Counting.{EmittedFront}
use Rattle.std.proofs.lemmas.Result.{err_from_is_err_and}
use Rattle.rh_bytes.proofs.Writing.{emitted_longer, emitting_stops}
use Rattle.rh_report.specs.Texts.{front_text, numbers_as}
use Rattle.rh_report.proofs.LineLemmas.{front_more, number_and_rest}
use Rattle.rh_report.proofs.lines.write_front.Goals as goal

pub returns-in_err-write_texts : goal.returns-in_err-write_texts
returns-in_err-write_texts g c =
    let p = err_from_is_err_and c.from_residual.result c.from_residual.ensures.1 in
    let word = c.args.word.now in
    let name = c.args.name.now in
    let begun : EmittedFront _ _ _ (front_text word name []) = subst (EmittedFront _ _ _) (λ i. c.as_bytes.ensures.value i ++ (c.as_bytes-2.ensures.value i ++ [])) c.in_err-write_texts.ensures in
    rw (p.1, front_more word name [] (numbers_as c.args.numbers.now)) (emitted_longer _ _ (front_text word name []) _ begun)

pub returns-in_err-write_number : goal.returns-in_err-write_number
returns-in_err-write_number g c =
    let p = err_from_is_err_and c.from_residual-in_err-write_number.result c.from_residual-in_err-write_number.ensures.1 in
    let place = c.loop-label.label-index in
    let numbers = c.args.numbers.now in
    rw p.1 (emitting_stops _ _ _ (front_text c.args.word.now c.args.name.now (numbers_as (take place numbers))) _ _ _ (number_and_rest _ _ numbers place _ (search rules)) c.loop-label.invariant c.in_err-write_number.ensures)
