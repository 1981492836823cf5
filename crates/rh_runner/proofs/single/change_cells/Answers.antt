use Rattle.std.proofs.Common.{◌∙◌, true, false, ap, arith}
use Rattle.std.proofs.lemmas.List.{take_all}
use Rattle.rh_layout.specs.Layout.{keys_of}
use Rattle.rh_ledger.specs.Phase.{set_after}
use Rattle.rh_runner.proofs.CellsLemmas.{only_cells}
use Rattle.rh_runner.proofs.SingleLemmas.{counted_on, room_on, set_goes_on}
use Rattle.rh_runner.proofs.single.change_cells.Goals.{then-change_cell, else-change_cell}
use Rattle.rh_runner.proofs.single.change_cells.Goals as goal

pub change_cell-requires-clause-room : goal.change_cell-requires-clause-room
change_cell-requires-clause-room c =
    room_on c.args.kind c.args.bits c.loop-key.key-index _ (keys_of c.args.cells.now) (keys_of c.loop-key.cells) c.args.keys.now c.requires.kind (omega arith) c.requires.room c.loop-key.invariant.keys

pub loop-key-preserved : goal.loop-key-preserved
loop-key-preserved c =
    let kind = c.args.kind in
    let S = keys_of c.args.cells.now in
    let T = keys_of c.loop-key.cells in
    let list = c.args.keys.now in
    let i = c.loop-key.key-index in
    let so_far = c.loop-key.invariant in
    let keys = c.change_cell.ensures.keys ∙ set_goes_on kind S T list i (omega arith) so_far.keys in
    elim c.if-change_cell.branch [
      | then-change_cell w ↦ record {
        layout = c.change_cell.ensures.layout;
        keys = keys;
        tally = counted_on kind S T list i (omega arith) so_far.keys c.loop-key.changed _ _ true so_far.tally c.change_cell.ensures.counted w.if-change_cell.true (omega (arith, w.changed-is));
        few = omega (arith, w.changed-is);
      }
      | else-change_cell w ↦ record {
        layout = c.change_cell.ensures.layout;
        keys = keys;
        tally = counted_on kind S T list i (omega arith) so_far.keys c.loop-key.changed _ _ false so_far.tally c.change_cell.ensures.counted w.if-change_cell.false (omega (arith, w.changed-is));
        few = omega (arith, w.changed-is);
      }
    ]

pub returns-clause-cells : goal.returns-clause-cells
returns-clause-cells c =
    let keys = c.args.keys.now in
    let old = c.args.cells.now in
    let all = ap (set_after c.args.kind (keys_of old)) (take_all c.loop-key.key-index keys (omega arith)) in
    only_cells c.args.kind c.args.bits keys old c.loop-key.cells c.loop-key.invariant.layout (c.loop-key.invariant.keys ∙ all) c.requires.room
