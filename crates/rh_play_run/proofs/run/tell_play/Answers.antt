use Rattle.std.proofs.Common.{refl}
use Rattle.std.proofs.lemmas.Result.{err_from_is_err_and}
use Rattle.rh_play_run.specs.Run.{printed}
use Rattle.rh_play_run.proofs.Played.{not_run}
use Rattle.rh_play_run.proofs.run.tell_play.Goals as goal

pub returns-in_err-played-clause-tells : goal.returns-in_err-played-clause-tells
returns-in_err-played-clause-tells g c =
    let fault = err_from_is_err_and c.from_residual.result c.from_residual.ensures.1 in
    rw (fault.1, fault.2) (not_run (Unit {0}) _ _ _ _ c.in_err-played.field-0.0 c.in_err-played.ensures.refused)

pub returns-then-not-is_told-clause-tells : goal.returns-then-not-is_told-clause-tells
returns-then-not-is_told-clause-tells g c =
    let plays = c.in_ok-played.ensures.plays in
    (plays.0, plays.1, plays.2.long (c.is_told.ensures.long c.if-not-is_told.true).0)

pub returns-in_err-write_played-clause-tells : goal.returns-in_err-write_played-clause-tells
returns-in_err-write_played-clause-tells g c =
    let fault = err_from_is_err_and c.from_residual-in_err-write_played.result c.from_residual-in_err-write_played.ensures.1 in
    let plays = c.in_ok-played.ensures.plays in
    rw (fault.1, fault.2) (printed c.in_ok-played.played, (plays.0, plays.1, plays.2.short (c.is_told.ensures.told c.if-not-is_told.false)), c.in_err-write_played.ensures.front)

pub returns-clause-tells : goal.returns-clause-tells
returns-clause-tells g c =
    let plays = c.in_ok-played.ensures.plays in
    (printed c.in_ok-played.played, (plays.0, plays.1, plays.2.short (c.is_told.ensures.told c.if-not-is_told.false)), c.in_ok-write_played.ensures.appended)

pub returns-in_err-write_played-clause-writes : goal.returns-in_err-write_played-clause-writes
returns-in_err-write_played-clause-writes g c =
    let fault = err_from_is_err_and c.from_residual-in_err-write_played.result c.from_residual-in_err-write_played.ensures.1 in
    rw (fault.1, fault.2) (record { untouched = λ other. absurd (other refl); write = λ failed. c.in_err-write_played.ensures.failed; written = tt })
