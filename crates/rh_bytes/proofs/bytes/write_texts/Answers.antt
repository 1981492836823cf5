use Rattle.std.proofs.Common.{drop, take, rules, suc}
use Rattle.std.proofs.lemmas.Result.{err_from_is_err_and}
use Rattle.rh_bytes.specs.Counting.{joined}
use Rattle.rh_bytes.proofs.Writing.{joined-split, emitting_stops}
use Rattle.rh_bytes.proofs.bytes.write_texts.Goals as goal

pub returns-in_err-write_text : goal.returns-in_err-write_text
returns-in_err-write_text g c =
    let p = err_from_is_err_and c.from_residual.result c.from_residual.ensures.1 in
    let index = c.loop-text.text-index in
    let texts = c.args.texts.now in
    rw p.1 (emitting_stops _ _ _ (joined (take index texts)) _ (joined (drop (suc index) texts)) _ (joined-split texts index _ (search rules)) c.loop-text.invariant c.in_err-write_text.ensures)
