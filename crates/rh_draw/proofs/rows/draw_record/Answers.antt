use Rattle.rh_draw.proofs.rows.draw_record.Goals as goal

pub returns-else-not-has-clause-drawn : goal.returns-else-not-has-clause-drawn
returns-else-not-has-clause-drawn c =
    rw (c.in-Step.is, ← c.has.ensures, c.if-not-has.false) (rw (c.moment_y-y.ensures, c.moment.ensures, c.helped_worker.ensures, c.deref.ensures.value) at c.draw_row.ensures)

pub returns-else-not-has_before-clause-drawn : goal.returns-else-not-has_before-clause-drawn
returns-else-not-has_before-clause-drawn c = rw (c.in-Round.is, ← c.has_before.ensures, c.if-not-has_before.false) c.draw_round.ensures
