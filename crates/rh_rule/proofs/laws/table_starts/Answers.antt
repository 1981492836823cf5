use Rattle.rh_rule.proofs.WipesKept.{table_starts}
use Rattle.rh_rule.proofs.laws.table_starts.Goals as goal

pub returns : goal.returns
returns c = table_starts
