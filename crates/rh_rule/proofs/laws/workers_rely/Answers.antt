use Rattle.rh_rule.proofs.Soundness.{steps_find, views_are_sound}
use Rattle.rh_rule.proofs.laws.workers_rely.Goals as goal

pub returns-clause-sound : goal.returns-clause-sound
returns-clause-sound c = views_are_sound

pub returns-clause-find : goal.returns-clause-find
returns-clause-find c = steps_find
