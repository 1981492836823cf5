use Rattle.std.proofs.Common.{[]}
use Rattle.rh_draw.specs.Reading.{ShowsTags}
use Rattle.rh_draw.specs.Heads.{below, lane_head}
use Rattle.rh_draw.proofs.frame.draw_lane_heads.Given as goal

abbrev pub invariant-loop-worker : goal.invariant-loop-worker
invariant-loop-worker l = ShowsTags l.fn.canvas.out.items l.canvas.out.items [] [] (below lane_head l.worker)
