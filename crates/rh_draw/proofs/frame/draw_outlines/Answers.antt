use Rattle.rh_draw.proofs.Showing.{element_ok, wrapped_ok}
use Rattle.rh_svg.specs.declared.tags.Tag.TheVariants.{Definitions}
use Rattle.rh_draw.proofs.frame.draw_outlines.Goals as goal

pub returns : goal.returns
returns c =
    let held = c.in_ok-draw_leaves.ensures in
    element_ok _ _ Definitions held.content _ held.marks_are held.lines_are held.heads_are
    (wrapped_ok _ _ _ _ Definitions held.content _ c.in_ok-open.ensures held.text c.close.ensures)
