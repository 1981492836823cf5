use Rattle.rh_draw.proofs.Showing.{element_ok}
use Rattle.std.proofs.Common.{refl}
use Rattle.rh_draw.proofs.rows.draw_round.Goals as goal

pub returns : goal.returns
returns c = rw (← c.moment_y.ensures, ← c.lane_x.ensures) (element_ok _ _ _ _ _ refl refl refl c.leaf.ensures)
