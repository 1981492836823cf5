use Rattle.std.proofs.lemmas.Result.{err_from_is_err_and}
use Rattle.rh_play_run.proofs.Begun.{begun, held_refused, not_begun}
use Rattle.rh_play_run.proofs.beginning.begin.Goals as goal

pub returns-in_err-cells-clause-refused : goal.returns-in_err-cells-clause-refused
returns-in_err-cells-clause-refused c =
    let fault = err_from_is_err_and c.from_residual.result c.from_residual.ensures.1 in
    rw (fault.1, fault.2) (held_refused c.args.play.now c.deref.result.now c.in_err-cells.field-0.0 c.deref.ensures.value c.in_err-cells.ensures.refused)

pub returns-clause-begins : goal.returns-clause-begins
returns-clause-begins c =
    begun c.args.play.now _ _ _ _ c.deref-2.ensures.value c.deref.ensures.value c.in_ok-cells.ensures.fine c.in_ok-cells.ensures.layout c.player_on.ensures

pub returns-clause-refused : goal.returns-clause-refused
returns-clause-refused c =
    not_begun c.args.play.now _ _ _ _ c.deref-2.ensures.value c.deref.ensures.value c.in_ok-cells.ensures.fine c.in_ok-cells.ensures.layout c.player_on.ensures
