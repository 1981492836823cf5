use Rattle.std.proofs.Common.{◌≡◌, length, take, vec_capacity, vec_len}
use Rattle.rh_layout.specs.Layout.{keys_of}
use Rattle.rh_ledger.specs.Phase.{looked_up}
use Rattle.rh_runner.proofs.single.SingleRunner.ask.Given as goal

abbrev pub invariant-loop-key : goal.invariant-loop-key
invariant-loop-key g l = record {
  room : vec_capacity l.found ≡ length l.keys;
  long : vec_len l.found ≡ l.key-index;
  answers : l.found.items ≡ looked_up (keys_of l.cells) (take l.key-index l.keys);
}
