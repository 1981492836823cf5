use Rattle.rh_draw.proofs.history.draw_notice_of.Goals as goal

pub returns : goal.returns
returns c = rw (c.in-Step.is, ← c.has.ensures, c.if-not-has.false) (rw c.moment-moment.ensures at c.draw_notice.ensures)
