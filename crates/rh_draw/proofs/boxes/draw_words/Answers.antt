use Rattle.rh_draw.proofs.Showing.{a_label, both_ok}
use Rattle.rh_draw.proofs.boxes.draw_words.Goals as goal

pub returns : goal.returns
returns c = both_ok _ _ _ _ _ (a_label _ _ c.in_ok-say_word.ensures) c.draw_value.ensures
