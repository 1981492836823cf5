use Rattle.rh_draw.proofs.Showing.{a_leaf, both_ok, element_ok}
use Rattle.std.proofs.Common.{append-nil, refl}
use Rattle.rh_draw.proofs.notices.draw_line.Goals as goal

pub returns : goal.returns
returns c = rw (c.in-Some.is, ← c.moment_y-y.ensures)
    (simp append-nil at (both_ok _ _ _ _ _ (a_leaf _ c.in_ok-leaf.ensures) (element_ok _ _ _ _ _ refl refl refl c.put_text.ensures)))
