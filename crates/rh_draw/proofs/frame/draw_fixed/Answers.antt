use Rattle.rh_draw.proofs.Showing.{a_label, both, both_ok}
use Rattle.std.proofs.Common.{append-nil}
use Rattle.rh_draw.proofs.frame.draw_fixed.Goals as goal

pub returns : goal.returns
returns c = simp append-nil at (both_ok _ _ _ _ _ (both (both (a_label _ _ c.in_ok-put_text.ensures) c.in_ok-draw_outlines.ensures) c.in_ok-draw_leaves.ensures) c.draw_captions.ensures)
