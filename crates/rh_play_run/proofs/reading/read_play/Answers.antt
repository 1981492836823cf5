use Rattle.std.proofs.lemmas.Result.{err_from_is_err_and}
use Rattle.rh_play_run.proofs.Read.{play_read, text_refused, text_told}
use Rattle.rh_play_run.proofs.reading.read_play.Goals as goal

pub returns-clause-read : goal.returns-clause-read
returns-clause-read g c = play_read _ _ c.in_ok-text.text.items _ (c.in_ok-text.ensures.read, c.in_ok-text.ensures.whole) (rw c.deref.ensures.value at c.in_ok-parse_play.ensures.parsed)

pub returns-in_err-parse_play-clause-refused : goal.returns-in_err-parse_play-clause-refused
returns-in_err-parse_play-clause-refused g c =
    let fault = err_from_is_err_and c.from_residual-in_err-parse_play.result c.from_residual-in_err-parse_play.ensures.1 in
    let why = c.in_err-parse_play.ensures in
    let told = text_told _ c.in_err-parse_play.field-0.0 why.refused why.memory why.size why.before in
    rw (fault.1, fault.2) (text_refused _ _ c.in_ok-text.text.items _ (c.in_ok-text.ensures.read, c.in_ok-text.ensures.whole) (rw c.deref.ensures.value at told))
