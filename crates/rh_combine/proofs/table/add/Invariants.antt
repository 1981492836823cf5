use Rattle.std.proofs.Common.{◌≡◌, take}
use Rattle.rh_combine.specs.Combine.{with_list}
use Rattle.rh_combine.specs.declared.how.How.TheVariants.{Union}
use Rattle.rh_combine.proofs.table.add.Given as goal

abbrev pub invariant-loop-key : goal.invariant-loop-key
invariant-loop-key l = record {
  bits : l.set.bits ≡ l.fn.set.bits;
  keys : l.set.keys ≡ with_list Union l.fn.set.keys (take l.key-index l.keys);
}
