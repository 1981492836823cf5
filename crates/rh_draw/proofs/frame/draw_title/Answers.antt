use Rattle.rh_draw.proofs.Showing.{a_label, all_of, one_title}
use Rattle.rh_draw.proofs.frame.draw_title.Goals as goal

pub loop-line-preserved : goal.loop-line-preserved
loop-line-preserved c =
    one_title c.args.title.now c.loop-line.line-index c.line-item.result c.loop-line-test.true c.line-item.is c.loop-line.invariant
    (rw c.deref.ensures.value at (a_label _ _ c.in_ok-put_text.ensures))

pub returns : goal.returns
returns c = rw (all_of _ c.args.title.now c.loop-line.line-index c.loop-line-test.false) at c.loop-line.invariant
