use Rattle.std.proofs.Common.{arith, inl, inr}
use Rattle.std.proofs.lemmas.Result.{err_from_is_err_and}
use Rattle.rh_play_run.proofs.Drawn.{drawn, good_play, good_run, play_memory, unchosen}
use Rattle.rh_play_run.proofs.Played.{unrun}
use Rattle.rh_play_run.proofs.drawing.picture_of.Goals as goal

pub returns-in_err-play-clause-memory : goal.returns-in_err-play-clause-memory
returns-in_err-play-clause-memory g c =
    let fault = err_from_is_err_and c.from_residual-in_err-play.result c.from_residual-in_err-play.ensures.1 in
    rw (fault.1, fault.2) (λ memory. inl (c.in_err-play.ensures.memory (play_memory _ _ c.in_err-play.field-0.0 memory)))

pub returns-in_err-recorded-clause-memory : goal.returns-in_err-recorded-clause-memory
returns-in_err-recorded-clause-memory g c =
    let fault = err_from_is_err_and c.from_residual-in_err-recorded.result c.from_residual-in_err-recorded.ensures.1 in
    rw (fault.1, fault.2) (λ memory. inr (good_play _ _ c.in_ok-play.play c.in_err-recorded.field-0.0 c.in_ok-play.ensures.read c.in_err-recorded.ensures.refused memory))

pub returns-in_err-window-clause-memory : goal.returns-in_err-window-clause-memory
returns-in_err-window-clause-memory g c = λ memory. inr (good_run _ c.in_ok-play.play _ _ _ c.in_ok-play.ensures.read (c.in_ok-recorded.ensures.recorded (omega (arith, c.if-made-gt-MAX_TOLD.false))))

pub returns-in_err-title-clause-memory : goal.returns-in_err-title-clause-memory
returns-in_err-title-clause-memory g c = λ memory. inr (good_run _ c.in_ok-play.play _ _ _ c.in_ok-play.ensures.read (c.in_ok-recorded.ensures.recorded (omega (arith, c.if-made-gt-MAX_TOLD.false))))

pub returns-in_err-draw-clause-memory : goal.returns-in_err-draw-clause-memory
returns-in_err-draw-clause-memory g c = λ memory. inr (good_run _ c.in_ok-play.play _ _ _ c.in_ok-play.ensures.read (c.in_ok-recorded.ensures.recorded (omega (arith, c.if-made-gt-MAX_TOLD.false))))

pub returns-in_err-recorded-clause-refused : goal.returns-in_err-recorded-clause-refused
returns-in_err-recorded-clause-refused g c =
    let fault = err_from_is_err_and c.from_residual-in_err-recorded.result c.from_residual-in_err-recorded.ensures.1 in
    rw (fault.1, fault.2) (unrun _ c.in_ok-play.play c.in_err-recorded.field-0.0 c.in_ok-play.ensures.read c.in_err-recorded.ensures.refused)

pub returns-in_err-window-clause-refused : goal.returns-in_err-window-clause-refused
returns-in_err-window-clause-refused g c =
    let fault = err_from_is_err_and c.from_residual-in_err-window.result c.from_residual-in_err-window.ensures.1 in
    rw (fault.1, fault.2)
    (unchosen _ c.args.from c.args.steps c.in_ok-play.play c.in_ok-play.ensures.read _ _ _ _ (c.in_ok-recorded.ensures.recorded (omega (arith, c.if-made-gt-MAX_TOLD.false))) c.deref.ensures.value c.in_err-window.field-0.0 c.in_err-window.ensures.refused)

pub returns-clause-drawn : goal.returns-clause-drawn
returns-clause-drawn g c =
    drawn _ c.args.from c.args.steps c.in_ok-play.play c.in_ok-play.ensures.read _ _ _ _ (c.in_ok-recorded.ensures.recorded (omega (arith, c.if-made-gt-MAX_TOLD.false))) c.deref.ensures.value
    _ _ c.in_ok-window.window _ _ c.deref-2.ensures.value c.deref-3.ensures.value c.in_ok-window.ensures.window c.in_ok-draw.ensures.drawn

pub returns-then-made-gt-MAX_TOLD-clause-refused : goal.returns-then-made-gt-MAX_TOLD-clause-refused
returns-then-made-gt-MAX_TOLD-clause-refused g c = (c.in_ok-play.play, c.in_ok-play.ensures.read, c.in_ok-recorded.ensures.long (omega (arith, c.if-made-gt-MAX_TOLD.true)))
