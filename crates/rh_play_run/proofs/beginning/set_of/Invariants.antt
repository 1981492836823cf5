use Rattle.std.proofs.Common.{◌≡◌, take}
use Rattle.std.specs.FinSet as set
use Rattle.rh_play_run.proofs.beginning.set_of.Given as goal

abbrev pub invariant-loop-key : goal.invariant-loop-key
invariant-loop-key l = record {
  bits : l.set.bits ≡ l.bits;
  keys : l.set.keys ≡ set.from_list (take l.key-index l.keys);
}
