use Rattle.std.proofs.Common.{[], take}
use Rattle.rh_draw.specs.Reading.{ShowsTags}
use Rattle.rh_draw.specs.Heads.{title_lines}
use Rattle.rh_draw.proofs.frame.draw_title.Given as goal

abbrev pub invariant-loop-line : goal.invariant-loop-line
invariant-loop-line l = ShowsTags l.fn.out.items l.out.items [] [] (title_lines (take l.line-index l.title))
