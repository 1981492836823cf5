use Rattle.std.proofs.Common.{◌≡◌, take}
use Rattle.rh_layout.specs.Layout.{keys_of}
use Rattle.rh_grow.proofs.growing.grow.Given as goal

abbrev pub invariant-loop-value : goal.invariant-loop-value
invariant-loop-value l = record {
  bits : l.set.bits ≡ l.new_bits;
  keys : l.set.keys ≡ keys_of (take l.value-index l.cells);
}
