use Rattle.rh_rule.proofs.WipesKept.{wipe_begins, wipe_ends, wipe_stores}
use Rattle.rh_rule.proofs.laws.a_wipe_keeps.Goals as goal

pub returns-clause-begins : goal.returns-clause-begins
returns-clause-begins c = wipe_begins

pub returns-clause-stores : goal.returns-clause-stores
returns-clause-stores c = wipe_stores

pub returns-clause-ends : goal.returns-clause-ends
returns-clause-ends c = wipe_ends
