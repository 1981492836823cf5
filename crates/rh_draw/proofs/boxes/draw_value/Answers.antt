use Rattle.rh_draw.proofs.Showing.{element_ok}
use Rattle.std.proofs.Common.{refl}
use Rattle.rh_draw.proofs.boxes.draw_value.Goals as goal

pub returns : goal.returns
returns c = element_ok _ _ _ _ _ refl refl refl c.say_word.ensures
