use Rattle.std.proofs.Common.{◌≡◌, ℕ, List}
use Rattle.rh_runner.specs.Lists.{Ran}
use Rattle.rh_runner.proofs.ListLemmas.{Came}
use Rattle.rh_runner.proofs.lists.change_all.Given as goal

abbrev pub invariant-loop-room : goal.invariant-loop-room
invariant-loop-room g l =
    (done : List ℕ)
    × Came (g.K.KeySource.coming l.fn.keys) (g.K.KeySource.coming l.keys) (g.K.KeySource.left_of l.fn.keys) (g.K.KeySource.left_of l.keys) done
    × Ran l.kind l.fn.scratch.bits done l.fn.scratch.cells.items l.cells.items l.tally
    × (g.N.Runner.refused_starts l.runner ≡ g.N.Runner.refused_starts l.fn.runner)
    × (g.K.KeySource.failed_with l.keys ≡ g.K.KeySource.failed_with l.fn.keys)

abbrev pub decreases-loop-room : goal.decreases-loop-room
decreases-loop-room g l = g.K.KeySource.left_of l.keys
