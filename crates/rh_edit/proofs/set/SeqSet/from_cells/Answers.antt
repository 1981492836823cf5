use Rattle.std.proofs.Common.{◌≡◌, ◌∙◌, arith, count_by, rules}
use Rattle.rh_layout.specs.Key.{is_full}
use Rattle.rh_layout.specs.Layout.{keys_of}
use Rattle.rh_layout.proofs.CountLemmas.{count_of_layout}
use Rattle.rh_edit.proofs.set.SeqSet.from_cells.Goals as goal

pub invariant_of-result : goal.invariant_of-result
invariant_of-result c =
    let cells = c.args.cells.items in
    let full : c.count.result ≡ count_by is_full cells = search rules in
    let len = full ∙ count_of_layout cells c.args.bits (keys_of cells) c.requires.layout in
    (c.requires.layout, len, omega (arith, len, c.requires.free))
