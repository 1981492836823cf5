use Rattle.std.proofs.Common.{[]}
use Rattle.rh_draw.specs.Reading.{ShowsTags}
use Rattle.rh_draw.specs.Heads.{below, column_head}
use Rattle.rh_draw.proofs.frame.draw_column_heads.Given as goal

abbrev pub invariant-loop-cell : goal.invariant-loop-cell
invariant-loop-cell l = ShowsTags l.fn.canvas.out.items l.canvas.out.items [] [] (below (column_head l.view.flags.items) l.cell)
