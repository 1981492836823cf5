use Rattle.rh_draw.proofs.Showing.{both}
use Rattle.std.proofs.Common.{add-one}
use Rattle.rh_draw.proofs.frame.draw_all_heads.Goals as goal

pub loop-part-preserved : goal.loop-part-preserved
loop-part-preserved c = rw add-one (both c.loop-part.invariant c.in_ok-draw_heads.ensures)
