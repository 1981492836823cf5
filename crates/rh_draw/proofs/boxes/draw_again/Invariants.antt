use Rattle.std.proofs.Common.{[]}
use Rattle.rh_draw.specs.Reading.{ShowsTags}
use Rattle.rh_draw.proofs.boxes.draw_again.Given as goal

abbrev pub invariant-loop-part : goal.invariant-loop-part
invariant-loop-part l = ShowsTags l.fn.canvas.out.items l.canvas.out.items [] [] []
