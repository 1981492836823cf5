use Rattle.std.proofs.Common.{◌∙◌, sym}
use Rattle.rh_layout.specs.Layout.{keys_of}
use Rattle.rh_layout.proofs.LayoutLemmas.{layout_keys, layout_own}
use Rattle.rh_operations.proofs.size.grow_table.Goals as goal

pub returns-clause-layout : goal.returns-clause-layout
returns-clause-layout c =
    layout_own c.in_ok-cells.cells.items c.in-Some.size (keys_of c.cells.result.now) c.in_ok-cells.ensures

pub returns-clause-keys : goal.returns-clause-keys
returns-clause-keys c =
    sym (layout_keys c.in_ok-cells.cells.items c.in-Some.size (keys_of c.cells.result.now) c.in_ok-cells.ensures) ∙ c.cells.ensures.keys
