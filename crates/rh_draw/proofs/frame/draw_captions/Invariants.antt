use Rattle.std.proofs.Common.{[]}
use Rattle.rh_draw.specs.Reading.{ShowsTags}
use Rattle.rh_draw.proofs.frame.draw_captions.Given as goal

abbrev pub invariant-loop-caption : goal.invariant-loop-caption
invariant-loop-caption l = ShowsTags l.fn.out.items l.out.items [] [] []
