use Rattle.std.proofs.Common.{ap, arith}
use Rattle.std.specs.FinSet as set
use Rattle.rh_layout.specs.Layout.{keys_of}
use Rattle.rh_ledger.proofs.PhaseLemmas.{len-insert_all}
use Rattle.rh_operations.proofs.sets.with_keys.Goals as goal

pub from_cells-requires-clause-free : goal.from_cells-requires-clause-free
from_cells-requires-clause-free g c =
    let old = keys_of c.in_ok-scratch.scratch.cells.items in
    rw c.in_ok-tally.ensures.keys (omega (arith, len-insert_all old c.args.keys.now, c.in_ok-scratch.ensures.room, ap (λ S. set.len S) c.in_ok-scratch.ensures.keys))
