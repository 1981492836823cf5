use Rattle.std.proofs.Common.{refl}
use Rattle.std.proofs.lemmas.Result.{err_from_is_err_and}
use Rattle.rh_play_run.specs.Run.{printed}
use Rattle.rh_play_run.proofs.Played.{not_run}
use Rattle.rh_play_run.proofs.run.run_play.Goals as goal

pub returns-in_err-played-clause-runs : goal.returns-in_err-played-clause-runs
returns-in_err-played-clause-runs g c =
    let fault = err_from_is_err_and c.from_residual.result c.from_residual.ensures.1 in
    rw (fault.1, fault.2) (not_run (Unit {0}) _ _ _ _ c.in_err-played.field-0.0 c.in_err-played.ensures.refused)

pub returns-in_err-write_played-clause-runs : goal.returns-in_err-write_played-clause-runs
returns-in_err-write_played-clause-runs g c =
    let fault = err_from_is_err_and c.from_residual-in_err-write_played.result c.from_residual-in_err-write_played.ensures.1 in
    let plays = c.in_ok-played.ensures.plays in
    rw (fault.1, fault.2) (printed c.in_ok-played.played, (plays.0, plays.1, plays.2.short tt), c.in_err-write_played.ensures.front)

pub returns-clause-runs : goal.returns-clause-runs
returns-clause-runs g c =
    let plays = c.in_ok-played.ensures.plays in
    (printed c.in_ok-played.played, (plays.0, plays.1, plays.2.short tt), c.in_ok-write_played.ensures.appended)

pub returns-in_err-write_played-clause-writes : goal.returns-in_err-write_played-clause-writes
returns-in_err-write_played-clause-writes g c =
    let fault = err_from_is_err_and c.from_residual-in_err-write_played.result c.from_residual-in_err-write_played.ensures.1 in
    rw (fault.1, fault.2) (record { untouched = λ other. absurd (other refl); write = λ failed. c.in_err-write_played.ensures.failed; written = tt })
