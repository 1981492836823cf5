use Rattle.rh_draw.proofs.Showing.{a_leaf, both_ok}
use Rattle.rh_draw.proofs.boxes.draw_box.Goals as goal

pub returns : goal.returns
returns c = both_ok _ _ _ _ _ (a_leaf _ c.in_ok-leaf.ensures) c.draw_words.ensures
