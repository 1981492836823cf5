use Rattle.std.proofs.Common.{◌≡◌, ◌≤◌, length, take}
use Rattle.rh_runner.proofs.ListLemmas.{Came}
use Rattle.rh_runner.proofs.lists.take_all.Given as goal

abbrev pub invariant-loop-taken : goal.invariant-loop-taken
invariant-loop-taken g l = record {
  within : l.taken ≤ length l.list;
  long : length l.list ≡ length l.fn.list;
  came : Came (g.K.KeySource.coming l.fn.keys) (g.K.KeySource.coming l.keys) (g.K.KeySource.left_of l.fn.keys) (g.K.KeySource.left_of l.keys) (take l.taken l.list);
  told : g.K.KeySource.failed_with l.keys ≡ g.K.KeySource.failed_with l.fn.keys;
}

abbrev pub decreases-loop-taken : goal.decreases-loop-taken
decreases-loop-taken g l = g.K.KeySource.left_of l.keys
