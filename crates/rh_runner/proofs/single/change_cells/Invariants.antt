use Rattle.std.proofs.Common.{◌≡◌, ◌≤◌, take}
use Rattle.rh_layout.specs.Layout.{IsLayout, keys_of}
use Rattle.rh_ledger.specs.Tally.{tally_by}
use Rattle.rh_ledger.specs.Phase.{set_after, tally_of}
use Rattle.rh_runner.proofs.single.change_cells.Given as goal

abbrev pub invariant-loop-key : goal.invariant-loop-key
invariant-loop-key l = record {
  layout : IsLayout l.bits l.cells;
  keys : keys_of l.cells ≡ set_after l.kind (keys_of l.fn.cells) (take l.key-index l.keys);
  tally : tally_of l.kind (keys_of l.fn.cells) (take l.key-index l.keys) ≡ tally_by l.kind l.key-index l.changed;
  few : l.changed ≤ l.key-index;
}
