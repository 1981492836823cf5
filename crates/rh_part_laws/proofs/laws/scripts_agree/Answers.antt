use Rattle.rh_part_laws.proofs.Meant.{of_part, of_script}
use Rattle.rh_part_laws.proofs.laws.scripts_agree.Goals as goal

pub returns-clause-meant : goal.returns-clause-meant
returns-clause-meant c = of_script

pub returns-clause-part : goal.returns-clause-part
returns-clause-part c = of_part
