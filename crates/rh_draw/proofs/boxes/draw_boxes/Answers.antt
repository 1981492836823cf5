use Rattle.rh_draw.proofs.Showing.{both}
use Rattle.rh_draw.proofs.boxes.draw_boxes.Goals as goal

pub loop-span-preserved : goal.loop-span-preserved
loop-span-preserved c = both (both c.loop-span.invariant c.in_ok-draw_box.ensures) c.in_ok-draw_again.ensures
