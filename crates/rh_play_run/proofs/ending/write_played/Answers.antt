use Rattle.std.proofs.lemmas.Result.{err_from_is_err_and}
use Rattle.rh_dump.specs.Dump.{dump_text}
use Rattle.rh_play_run.proofs.Written.{first_stops, second_stops, third_ends}
use Rattle.rh_play_run.proofs.ending.write_played.Goals as goal

pub returns-in_err-write_texts : goal.returns-in_err-write_texts
returns-in_err-write_texts g c =
    let fault = err_from_is_err_and c.from_residual.result c.from_residual.ensures.1 in
    let played = c.args.played.now in
    rw fault.1 (first_stops _ _ played.body.items (dump_text played.bits played.cells.items) played.closing.items (rw c.deref.ensures.value at c.in_err-write_texts.ensures))

pub returns-in_err-write_dump : goal.returns-in_err-write_dump
returns-in_err-write_dump g c =
    let fault = err_from_is_err_and c.from_residual-in_err-write_dump.result c.from_residual-in_err-write_dump.ensures.1 in
    let played = c.args.played.now in
    rw fault.1 (second_stops _ _ _ played.body.items (dump_text played.bits played.cells.items) played.closing.items (rw c.deref.ensures.value at c.in_ok-write_texts.ensures) (rw c.deref-2.ensures.value at c.in_err-write_dump.ensures))

pub returns : goal.returns
returns g c =
    let played = c.args.played.now in
    third_ends _ _ _ _ played.body.items (dump_text played.bits played.cells.items) played.closing.items _ (rw c.deref.ensures.value at c.in_ok-write_texts.ensures) (rw c.deref-2.ensures.value at c.in_ok-write_dump.ensures)
    (rw c.deref-3.ensures.value at c.write_texts-2.ensures)
