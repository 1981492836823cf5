use Rattle.std.proofs.Common.{ap, sym, arith}
use Rattle.std.specs.Prelude.{not}
use Rattle.std.specs.FinSet as set
use Rattle.rh_layout.specs.Layout.{HasFree, keys_of}
use Rattle.rh_layout.proofs.CountLemmas.{free_from_len}
use Rattle.rh_layout.proofs.LayoutLemmas.{layout_own, layout_keys}
use Rattle.rh_edit.proofs.InsertLayout.{put_again, found_code, insert_code, free_past_probe}
use Rattle.rh_edit.proofs.insertion.insert.Goals as goal

pub probe_length-at-requires-clause-free : goal.probe_length-at-requires-clause-free
probe_length-at-requires-clause-free c = free_from_len c.args.cells.now c.args.bits (keys_of c.args.cells.now) c.requires.layout (omega (arith, c.requires.room))

pub returns-then-cells-cell-clause-keys : goal.returns-then-cells-cell-clause-keys
returns-then-cells-cell-clause-keys c =
    put_again (keys_of c.args.cells.now) c.args.key
    (found_code c.args.bits c.args.key _ _ _ _ c.args.cells.now c.requires.layout c.home-first.ensures.value c.probe_length-at.ensures c.cell_of-value.ensures c.cell_after-cell.ensures.value c.if-cells-cell.true)

pub returns-then-cells-cell-clause-changed : goal.returns-then-cells-cell-clause-changed
returns-then-cells-cell-clause-changed c =
    ap not (sym (found_code c.args.bits c.args.key _ _ _ _ c.args.cells.now c.requires.layout c.home-first.ensures.value c.probe_length-at.ensures c.cell_of-value.ensures c.cell_after-cell.ensures.value c.if-cells-cell.true))

pub push_on-requires-clause-free : goal.push_on-requires-clause-free
push_on-requires-clause-free c =
    let free : HasFree c.args.cells.now = free_from_len c.args.cells.now c.args.bits (keys_of c.args.cells.now) c.requires.layout (omega (arith, c.requires.room)) in
    let past = free_past_probe c.args.bits c.args.cells.now c.args.key c.probe_length-at.result c.requires.layout.size c.probe_length-at.ensures free in
    (free.0, free.1, rw (c.requires.layout.size, c.home-first.ensures.value) past, free.2)

pub returns-clause-layout : goal.returns-clause-layout
returns-clause-layout c =
    layout_own c.push_on.new.cells c.args.bits (set.insert (keys_of c.args.cells.now) c.args.key)
    (insert_code c.args.bits c.args.key _ _ _ _ c.args.cells.now c.push_on.new.cells c.requires.key c.requires.layout c.requires.room c.home-first.ensures.value c.probe_length-at.ensures c.cell_of-value.ensures c.cell_after-cell.ensures.value c.if-cells-cell.false c.push_on.ensures.0 c.push_on.ensures.1 c.push_on.auto.cells).1

pub returns-clause-keys : goal.returns-clause-keys
returns-clause-keys c =
    sym (layout_keys c.push_on.new.cells c.args.bits (set.insert (keys_of c.args.cells.now) c.args.key)
    (insert_code c.args.bits c.args.key _ _ _ _ c.args.cells.now c.push_on.new.cells c.requires.key c.requires.layout c.requires.room c.home-first.ensures.value c.probe_length-at.ensures c.cell_of-value.ensures c.cell_after-cell.ensures.value c.if-cells-cell.false c.push_on.ensures.0 c.push_on.ensures.1 c.push_on.auto.cells).1)

pub returns-clause-changed : goal.returns-clause-changed
returns-clause-changed c =
    ap not (sym (insert_code c.args.bits c.args.key _ _ _ _ c.args.cells.now c.push_on.new.cells c.requires.key c.requires.layout c.requires.room c.home-first.ensures.value c.probe_length-at.ensures c.cell_of-value.ensures c.cell_after-cell.ensures.value c.if-cells-cell.false c.push_on.ensures.0 c.push_on.ensures.1 c.push_on.auto.cells).0)
