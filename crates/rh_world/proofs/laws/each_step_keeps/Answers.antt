use Rattle.rh_world.proofs.ClaimsKept.{claims_kept}
use Rattle.rh_world.proofs.StepLaws.{each_step_keeps, steps_keep_acts, steps_keep_prefixes, steps_keep_rows}
use Rattle.rh_world.proofs.StepsLater.{steps_later}
use Rattle.rh_world.proofs.laws.each_step_keeps.Goals as goal

pub returns-clause-rule : goal.returns-clause-rule
returns-clause-rule c = each_step_keeps

pub returns-clause-rows : goal.returns-clause-rows
returns-clause-rows c = steps_keep_rows

pub returns-clause-acts : goal.returns-clause-acts
returns-clause-acts c = steps_keep_acts

pub returns-clause-prefixes : goal.returns-clause-prefixes
returns-clause-prefixes c = steps_keep_prefixes

pub returns-clause-claims : goal.returns-clause-claims
returns-clause-claims c = claims_kept

pub returns-clause-later : goal.returns-clause-later
returns-clause-later c = steps_later
