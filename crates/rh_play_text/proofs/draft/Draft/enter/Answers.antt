use Rattle.rh_play_text.proofs.Entering.{out_of_range}
use Rattle.std.proofs.Common.{sym}
use Rattle.rh_play_text.proofs.draft.Draft.enter.Goals as goal

pub returns-then-not-fits : goal.returns-then-not-fits
returns-then-not-fits c = λ _. out_of_range _ _ (sym c.if-not-fits.ensures)
