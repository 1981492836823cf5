use Rattle.std.proofs.Common.{arith}
use Rattle.rh_combine.proofs.TableLemmas.{len-before}
use Rattle.rh_combine.proofs.table.with_list.Goals as goal

pub both-requires-clause-limit : goal.both-requires-clause-limit
both-requires-clause-limit c = omega (arith, len-before c.args.set.keys c.args.keys.now, c.requires.few, c.requires.limit)
