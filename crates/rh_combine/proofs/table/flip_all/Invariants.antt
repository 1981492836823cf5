use Rattle.std.proofs.Common.{◌≡◌, take}
use Rattle.std.specs.FinSet as set
use Rattle.rh_combine.specs.Combine.{with_list}
use Rattle.rh_combine.specs.declared.how.How.TheVariants.{Xor}
use Rattle.rh_combine.proofs.table.flip_all.Given as goal

abbrev pub invariant-loop-key : goal.invariant-loop-key
invariant-loop-key l = record {
  seen_bits : l.seen.bits ≡ l.bits;
  seen : l.seen.keys ≡ set.from_list (take l.key-index l.keys);
  bits : l.set.bits ≡ l.fn.set.bits;
  keys : l.set.keys ≡ with_list Xor l.fn.set.keys (take l.key-index l.keys);
}
