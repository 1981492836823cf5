use Rattle.rh_draw.proofs.Showing.{a_label, both}
use Rattle.std.proofs.Common.{add-one}
use Rattle.rh_draw.proofs.frame.draw_lane_heads.Goals as goal

pub loop-worker-preserved : goal.loop-worker-preserved
loop-worker-preserved c = rw add-one (both c.loop-worker.invariant (a_label _ _ c.in_ok-count.ensures))
