use Rattle.std.proofs.Common.{ℕ, ◌<◌}
use Rattle.rh_layout.specs.Layout.{IsPlaced}
use Rattle.rh_layout.proofs.table.is_layout.Given as goal

abbrev pub invariant-loop-cell : goal.invariant-loop-cell
invariant-loop-cell l = (c : ℕ) → c < l.cell → IsPlaced l.bits l.cells c
