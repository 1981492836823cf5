use Rattle.rh_draw.proofs.Showing.{both}
use Rattle.rh_draw.proofs.rows.draw_rounds.Goals as goal

pub loop-place-preserved : goal.loop-place-preserved
loop-place-preserved c = both c.loop-place.invariant c.in_ok-count_round.ensures
