use Rattle.rh_draw.proofs.Showing.{both}
use Rattle.std.proofs.Common.{add-one}
use Rattle.rh_draw.proofs.frame.draw_column_heads.Goals as goal

pub loop-cell-preserved : goal.loop-cell-preserved
loop-cell-preserved c = rw add-one (both c.loop-cell.invariant c.in_ok-draw_column_head.ensures)
