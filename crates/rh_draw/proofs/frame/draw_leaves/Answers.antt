use Rattle.rh_draw.proofs.Showing.{a_leaf, all_of, more}
use Rattle.rh_svg.specs.Markup.{Nothing}
use Rattle.rh_draw.specs.Reading.{line, mark}
use Rattle.rh_draw.proofs.frame.draw_leaves.Goals as goal

pub loop-tag-preserved : goal.loop-tag-preserved
loop-tag-preserved c =
    more (λ tag. mark tag Nothing) (λ tag. line tag Nothing) c.args.given.now c.loop-tag.tag-index _ c.loop-tag-test.true c.loop-tag.invariant
    (a_leaf _ c.in_ok-leaf.ensures)

pub returns : goal.returns
returns c = rw (all_of _ c.args.given.now c.loop-tag.tag-index c.loop-tag-test.false, all_of _ c.args.given.now c.loop-tag.tag-index c.loop-tag-test.false) at c.loop-tag.invariant
