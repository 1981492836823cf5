use Rattle.rh_shared.proofs.Lending.{unchanged}
use Rattle.rh_shared.proofs.on_table.OnTableSteps.own_word.Goals as goal

pub returns-clause-same : goal.returns-clause-same
returns-clause-same c = unchanged _ _ c.look.ensures.stays c.look.ensures.looks.view
