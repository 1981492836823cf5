use Rattle.std.proofs.Common.{[]}
use Rattle.rh_draw.specs.Reading.{ShowsTags}
use Rattle.rh_draw.specs.Heads.{head_row, repeated}
use Rattle.rh_draw.proofs.frame.draw_all_heads.Given as goal

abbrev pub invariant-loop-part : goal.invariant-loop-part
invariant-loop-part l =
    ShowsTags l.fn.canvas.out.items l.canvas.out.items [] [] (repeated (head_row l.view.shape.workers l.view.flags.items) l.part)
