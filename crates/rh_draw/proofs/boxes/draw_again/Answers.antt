use Rattle.rh_draw.proofs.Showing.{both}
use Rattle.rh_draw.proofs.boxes.draw_again.Goals as goal

pub loop-part-preserved : goal.loop-part-preserved
loop-part-preserved c = both c.loop-part.invariant c.in_ok-draw_words.ensures
