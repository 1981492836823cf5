use Rattle.std.proofs.Common.{append-nil}
use Rattle.std.proofs.lemmas.Result.{err_from_is_err_and}
use Rattle.rh_play_run.proofs.drawing.draw_play.Goals as goal

pub returns-in_err-write_texts-clause-draws : goal.returns-in_err-write_texts-clause-draws
returns-in_err-write_texts-clause-draws g c =
    let fault = err_from_is_err_and c.from_residual-in_err-write_texts.result c.from_residual-in_err-write_texts.ensures.1 in
    rw (fault.1, fault.2) (c.in_ok-picture.picture.items, c.in_ok-picture.ensures.drawn, (rw (append-nil, c.deref.ensures.value) at c.in_err-write_texts.ensures.front))
