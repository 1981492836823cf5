use Rattle.std.proofs.Common.{sym, arith}
use Rattle.std.specs.FinSet as set
use Rattle.rh_layout.specs.Layout.{HasFree, keys_of}
use Rattle.rh_layout.proofs.CountLemmas.{free_from_len}
use Rattle.rh_layout.proofs.LayoutLemmas.{layout_own, layout_keys}
use Rattle.rh_edit.proofs.RemoveLayout.{out_again, absent_code, free_code, remove_code}
use Rattle.rh_edit.proofs.removal.remove.Goals as goal

pub probe_length-at-requires-clause-free : goal.probe_length-at-requires-clause-free
probe_length-at-requires-clause-free c = free_from_len c.args.cells.now c.args.bits (keys_of c.args.cells.now) c.requires.layout c.requires.room

pub returns-then-cells-cell-clause-keys : goal.returns-then-cells-cell-clause-keys
returns-then-cells-cell-clause-keys c =
    out_again (keys_of c.args.cells.now) c.args.key
    (absent_code c.args.bits c.args.key _ _ _ _ c.args.cells.now c.requires.layout c.home-first.ensures.value c.probe_length-at.ensures c.cell_of.ensures c.cell_after-cell.ensures.value c.if-cells-cell.true)

pub returns-then-cells-cell-clause-changed : goal.returns-then-cells-cell-clause-changed
returns-then-cells-cell-clause-changed c =
    sym (absent_code c.args.bits c.args.key _ _ _ _ c.args.cells.now c.requires.layout c.home-first.ensures.value c.probe_length-at.ensures c.cell_of.ensures c.cell_after-cell.ensures.value c.if-cells-cell.true)

pub pull_back-requires-clause-free : goal.pull_back-requires-clause-free
pull_back-requires-clause-free c =
    let free : HasFree c.args.cells.now = free_from_len c.args.cells.now c.args.bits (keys_of c.args.cells.now) c.requires.layout c.requires.room in
    let past = free_code c.args.bits c.args.key _ _ _ _ c.args.cells.now c.requires.layout c.home-first.ensures.value c.probe_length-at.ensures c.cell_of.ensures c.cell_after-cell.ensures.value c.if-cells-cell.false free in
    (free.0, free.1, omega (arith, past), free.2)

pub returns-clause-layout : goal.returns-clause-layout
returns-clause-layout c =
    layout_own c.pull_back.new.cells c.args.bits (set.remove (keys_of c.args.cells.now) c.args.key)
    (remove_code c.args.bits c.args.key _ _ _ _ c.args.cells.now c.pull_back.new.cells c.requires.layout c.home-first.ensures.value c.probe_length-at.ensures c.cell_of.ensures c.cell_after-cell.ensures.value c.if-cells-cell.false c.pull_back.ensures.0 c.pull_back.ensures.1 c.pull_back.auto.cells).1

pub returns-clause-keys : goal.returns-clause-keys
returns-clause-keys c =
    sym (layout_keys c.pull_back.new.cells c.args.bits (set.remove (keys_of c.args.cells.now) c.args.key)
    (remove_code c.args.bits c.args.key _ _ _ _ c.args.cells.now c.pull_back.new.cells c.requires.layout c.home-first.ensures.value c.probe_length-at.ensures c.cell_of.ensures c.cell_after-cell.ensures.value c.if-cells-cell.false c.pull_back.ensures.0 c.pull_back.ensures.1 c.pull_back.auto.cells).1)

pub returns-clause-changed : goal.returns-clause-changed
returns-clause-changed c =
    sym (remove_code c.args.bits c.args.key _ _ _ _ c.args.cells.now c.pull_back.new.cells c.requires.layout c.home-first.ensures.value c.probe_length-at.ensures c.cell_of.ensures c.cell_after-cell.ensures.value c.if-cells-cell.false c.pull_back.ensures.0 c.pull_back.ensures.1 c.pull_back.auto.cells).0
