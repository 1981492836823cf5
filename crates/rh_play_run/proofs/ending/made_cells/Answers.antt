use Rattle.std.proofs.lemmas.List.{with_items_is}
use Rattle.std.proofs.Common.{rules}
use Rattle.rh_play_run.proofs.ending.made_cells.Goals as goal

pub returns-clause-so_far : goal.returns-clause-so_far
returns-clause-so_far c =
    let items = with_items_is c.in_ok-made.made c.logical.new.cells (search rules) in
    rw items c.logical.ensures.so_far

pub returns-clause-finished : goal.returns-clause-finished
returns-clause-finished c =
    let items = with_items_is c.in_ok-made.made c.logical.new.cells (search rules) in
    rw items c.logical.ensures.finished
