use Rattle.rh_draw.proofs.Showing.{a_leaf, both}
use Rattle.rh_draw.proofs.frame.draw_lanes.Goals as goal

pub loop-worker-preserved : goal.loop-worker-preserved
loop-worker-preserved c = both c.loop-worker.invariant (a_leaf _ c.in_ok-leaf.ensures)
