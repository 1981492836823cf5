use Rattle.std.proofs.Common.{sym}
use Rattle.rh_play_run.proofs.Begun.{few_held, many_held}
use Rattle.rh_play_run.proofs.beginning.held_cells.Goals as goal

pub returns-then-keys-cells_in-clause-refused : goal.returns-then-keys-cells_in-clause-refused
returns-then-keys-cells_in-clause-refused c =
    many_held _ _ (sym c.if-not-are_keys.ensures) (rw c.cells_in.ensures at c.if-keys-cells_in.true)

pub returns-clause-fine : goal.returns-clause-fine
returns-clause-fine c = few_held _ _ (sym c.if-not-are_keys.ensures) (rw c.cells_in.ensures at c.if-keys-cells_in.false)
