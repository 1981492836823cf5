use Rattle.std.proofs.Common.{[], take, flat_map}
use Rattle.rh_svg.specs.Markup.{Nothing}
use Rattle.rh_draw.specs.Reading.{ShowsTags, line, mark}
use Rattle.rh_draw.proofs.frame.draw_leaves.Given as goal

abbrev pub invariant-loop-tag : goal.invariant-loop-tag
invariant-loop-tag l =
    ShowsTags l.fn.out.items l.out.items (flat_map (λ tag. mark tag Nothing) (take l.tag-index l.given))
    (flat_map (λ tag. line tag Nothing) (take l.tag-index l.given)) []
