use Rattle.std.proofs.Common.{arith}
use Rattle.rh_combine.proofs.CutLemmas.{part_by_shift}
use Rattle.rh_combine.proofs.cut.Grid.part_of.Goals as goal

pub returns-clause-part : goal.returns-clause-part
returns-clause-part c q = part_by_shift c.args.self.now c.args.key (omega arith) (omega arith) q
