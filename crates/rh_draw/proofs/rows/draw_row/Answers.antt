use Rattle.rh_draw.proofs.Showing.{a_label, both, both_ok}
use Rattle.std.proofs.Common.{append-nil}
use Rattle.rh_draw.proofs.rows.draw_row.Goals as goal

pub returns : goal.returns
returns c = rw append-nil at (both_ok _ _ _ _ _ (both (a_label _ _ c.in_ok-count.ensures) c.in_ok-draw_help.ensures) c.draw_mark.ensures)
