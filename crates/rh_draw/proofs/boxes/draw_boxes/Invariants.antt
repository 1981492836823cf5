use Rattle.std.proofs.Common.{[]}
use Rattle.rh_draw.specs.Reading.{ShowsTags}
use Rattle.rh_draw.proofs.boxes.draw_boxes.Given as goal

abbrev pub invariant-loop-span : goal.invariant-loop-span
invariant-loop-span l = ShowsTags l.fn.canvas.out.items l.canvas.out.items [] [] []
