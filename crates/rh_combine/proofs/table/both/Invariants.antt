use Rattle.std.proofs.Common.{◌≡◌, take}
use Rattle.rh_combine.specs.Combine.{with_list}
use Rattle.rh_combine.specs.declared.how.How.TheVariants.{Intersect}
use Rattle.rh_combine.proofs.table.both.Given as goal

abbrev pub invariant-loop-key : goal.invariant-loop-key
invariant-loop-key l = record {
  bits : l.found.bits ≡ l.bits;
  keys : l.found.keys ≡ with_list Intersect l.set.keys (take l.key-index l.keys);
}
