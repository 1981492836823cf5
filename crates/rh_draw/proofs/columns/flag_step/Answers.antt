use Rattle.rh_draw.proofs.Flagging.{flagged, unflagged}
use Rattle.std.proofs.Common.{sym, ◌∙◌}
use Rattle.rh_draw.proofs.columns.flag_step.Goals as goal

pub returns-else-has : goal.returns-else-has
returns-else-has c = unflagged _ _ _ _ c.args.step.now (sym c.has.ensures ∙ c.if-has.false)

pub returns-in_ok-list_changes : goal.returns-in_ok-list_changes
returns-in_ok-list_changes c =
    rw (c.put_all.ensures, c.deref.ensures.value, c.in_ok-list_changes.ensures) (flagged _ _ _ _ c.args.step.now (sym c.has.ensures ∙ c.if-has.true))
