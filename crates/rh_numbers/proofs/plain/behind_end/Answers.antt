use Rattle.std.proofs.Common.{rules, arith}
use Rattle.rh_numbers.proofs.FewDigits.{returned}
use Rattle.rh_numbers.proofs.plain.behind_end.Goals as goal

pub returns-then-text-feed-eq10-clause-ends : goal.returns-then-text-feed-eq10-clause-ends
returns-then-text-feed-eq10-clause-ends c = returned c.args.text.now c.args.at (omega arith) (search rules) (search rules)
