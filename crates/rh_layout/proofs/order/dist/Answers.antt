use Rattle.std.proofs.Common.{◌^◌, arith}
use Rattle.std.proofs.lemmas.Nat.{one_shl}
use Rattle.rh_layout.proofs.RoundLemmas.{steps_behind}
use Rattle.rh_layout.proofs.order.dist.Goals as goal

pub returns-else-home-cell-clause-value : goal.returns-else-home-cell-clause-value
returns-else-home-cell-clause-value c =
    rw (one_shl c.args.bits 64 (omega arith), ← c.home-home.ensures.value)
    (steps_behind (2 ^ c.args.bits) c.home-home.result c.args.cell c.home-home.ensures.in_table c.requires.cell (omega arith))
