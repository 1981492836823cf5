use Rattle.rh_draw.proofs.Showing.{a_leaf, both_ok, element_ok}
use Rattle.std.proofs.Common.{refl}
use Rattle.rh_draw.proofs.rows.draw_help.Goals as goal

pub returns : goal.returns
returns c = rw (c.in-Some.is, ← c.lane_x-x.ensures, ← c.lane_x-to_x.ensures) (both_ok _ _ _ _ _ (a_leaf _ c.in_ok-leaf.ensures) (element_ok _ _ _ _ _ refl refl refl c.leaf-2.ensures))
