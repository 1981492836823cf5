use Rattle.rh_draw.proofs.Showing.{a_leaf, both, both_ok}
use Rattle.std.proofs.Common.{append-nil}
use Rattle.rh_draw.proofs.frame.draw_frame.Goals as goal

pub returns : goal.returns
returns c =
    simp append-nil
    at (both_ok _ _ _ _ _ (both (both (a_leaf _ c.in_ok-leaf.ensures) c.in_ok-draw_fixed.ensures) c.in_ok-draw_title.ensures) c.draw_lanes.ensures)
