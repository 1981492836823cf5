use Rattle.std.proofs.Common.{length, ap, sym, ◌∙◌}
use Rattle.rh_layout.specs.Layout.{keys_of}
use Rattle.rh_layout.proofs.CountLemmas.{free_from_len}
use Rattle.rh_layout.proofs.LayoutLemmas.{at}
use Rattle.rh_probe.proofs.LookLemmas.{spot_is, fresh_from_probe}
use Rattle.rh_probe.proofs.probing.find.Goals as goal

pub probe_length-steps-requires-clause-free : goal.probe_length-steps-requires-clause-free
probe_length-steps-requires-clause-free c = free_from_len c.args.cells.now c.args.bits (keys_of c.args.cells.now) c.requires.layout c.requires.room

pub returns-else-cells-cell : goal.returns-else-cells-cell
returns-else-cells-cell c =
    let spot = spot_is c.args.bits (length c.args.cells.now) c.args.key c.home.result c.probe_length-steps.result c.cell_after-cell.result c.requires.layout.size c.home.ensures.value c.cell_after-cell.ensures.value in
    fresh_from_probe c.args.bits c.args.cells.now c.args.key c.probe_length-steps.result (keys_of c.args.cells.now) c.requires.layout c.probe_length-steps.ensures
    (λ e. c.if-cells-cell.false (ap (at c.args.cells.now) spot ∙ e ∙ sym c.cell_of.ensures))
