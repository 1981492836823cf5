use Rattle.std.proofs.Common.{◌≡◌, List, ℕ}
use Rattle.rh_runner.proofs.ListLemmas.{Came}
use Rattle.rh_runner.proofs.lists.read_through.Given as goal

abbrev pub invariant-loop : goal.invariant-loop
invariant-loop g l =
    (done : List ℕ)
    × Came (g.K.KeySource.coming l.fn.keys) (g.K.KeySource.coming l.keys) (g.K.KeySource.left_of l.fn.keys) (g.K.KeySource.left_of l.keys) done
    × (g.K.KeySource.failed_with l.keys ≡ g.K.KeySource.failed_with l.fn.keys)

abbrev pub decreases-loop : goal.decreases-loop
decreases-loop g l = g.K.KeySource.left_of l.keys
