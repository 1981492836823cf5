use Rattle.rh_draw.proofs.Showing.{both_ok}
use Rattle.rh_draw.proofs.frame.draw_heads.Goals as goal

pub returns : goal.returns
returns c = both_ok _ _ _ _ _ c.in_ok-draw_lane_heads.ensures c.draw_column_heads.ensures
