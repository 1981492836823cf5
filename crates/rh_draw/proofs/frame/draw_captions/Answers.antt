use Rattle.rh_draw.proofs.Showing.{both}
use Rattle.rh_draw.proofs.frame.draw_captions.Goals as goal

pub loop-caption-preserved : goal.loop-caption-preserved
loop-caption-preserved c = both c.loop-caption.invariant c.in_ok-draw_caption.ensures
