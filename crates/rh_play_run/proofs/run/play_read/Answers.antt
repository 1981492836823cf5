use Rattle.std.proofs.Common.{inr}
use Rattle.std.proofs.lemmas.Result.{err_from_is_err_and}
use Rattle.rh_play_run.proofs.Played.{good_play, unrun}
use Rattle.rh_play_run.proofs.run.play_read.Goals as goal

pub returns-in_err-played-clause-refused : goal.returns-in_err-played-clause-refused
returns-in_err-played-clause-refused g c =
    let fault = err_from_is_err_and c.from_residual-in_err-played.result c.from_residual-in_err-played.ensures.1 in
    rw (fault.1, fault.2) (unrun _ c.in_ok-play.play c.in_err-played.field-0.0 c.in_ok-play.ensures.read c.in_err-played.ensures.refused)

pub returns-in_err-played-clause-memory : goal.returns-in_err-played-clause-memory
returns-in_err-played-clause-memory g c =
    let fault = err_from_is_err_and c.from_residual-in_err-played.result c.from_residual-in_err-played.ensures.1 in
    rw (fault.1, fault.2) (λ memory. inr (good_play _ _ c.in_ok-play.play c.in_err-played.field-0.0 c.in_ok-play.ensures.read c.in_err-played.ensures.refused memory))

pub returns-clause-plays : goal.returns-clause-plays
returns-clause-plays g c = (c.in_ok-play.play, c.in_ok-play.ensures.read, c.in_ok-played.ensures.plays)
