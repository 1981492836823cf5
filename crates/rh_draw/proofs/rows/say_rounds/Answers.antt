use Rattle.rh_draw.proofs.Showing.{element_ok}
use Rattle.std.proofs.Common.{refl}
use Rattle.rh_draw.proofs.rows.say_rounds.Goals as goal

pub returns-then-rounds-eq1 : goal.returns-then-rounds-eq1
returns-then-rounds-eq1 c = element_ok _ _ _ _ _ refl refl refl c.put_text.ensures

pub returns-else-rounds-eq1 : goal.returns-else-rounds-eq1
returns-else-rounds-eq1 c = element_ok _ _ _ _ _ refl refl refl c.count.ensures
