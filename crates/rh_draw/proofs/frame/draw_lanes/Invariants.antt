use Rattle.std.proofs.Common.{[]}
use Rattle.rh_draw.specs.Reading.{ShowsTags}
use Rattle.rh_draw.proofs.frame.draw_lanes.Given as goal

abbrev pub invariant-loop-worker : goal.invariant-loop-worker
invariant-loop-worker l = ShowsTags l.fn.canvas.out.items l.canvas.out.items [] [] []
