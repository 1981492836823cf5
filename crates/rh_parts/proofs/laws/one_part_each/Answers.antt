use Rattle.rh_parts.proofs.Parts.{part_below, stands_nowhere_else, stands_there}
use Rattle.rh_parts.proofs.laws.one_part_each.Goals as goal

pub returns-clause-within : goal.returns-clause-within
returns-clause-within c k = part_below c.args.parts k c.requires

pub returns-clause-there : goal.returns-clause-there
returns-clause-there c = stands_there c.args.parts

pub returns-clause-no_other : goal.returns-clause-no_other
returns-clause-no_other c keys part k = stands_nowhere_else c.args.parts part keys k
