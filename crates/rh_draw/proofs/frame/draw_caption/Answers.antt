use Rattle.rh_draw.proofs.Showing.{element_ok}
use Rattle.std.proofs.Common.{refl}
use Rattle.rh_draw.proofs.frame.draw_caption.Goals as goal

pub returns : goal.returns
returns c = rw c.look-look.ensures at (element_ok _ _ _ _ _ refl refl refl c.put_text.ensures)
