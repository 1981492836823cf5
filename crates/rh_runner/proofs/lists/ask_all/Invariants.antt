use Rattle.std.proofs.Common.{◌≡◌, List, ℕ}
use Rattle.rh_layout.specs.Layout.{keys_of}
use Rattle.rh_ledger.specs.Phase.{looked_up}
use Rattle.rh_runner.proofs.ListLemmas.{Came}
use Rattle.rh_runner.proofs.lists.ask_all.Given as goal

abbrev pub invariant-loop-room : goal.invariant-loop-room
invariant-loop-room g l =
    (done : List ℕ)
    × Came (g.K.KeySource.coming l.fn.keys) (g.K.KeySource.coming l.keys) (g.K.KeySource.left_of l.fn.keys) (g.K.KeySource.left_of l.keys) done
    × (l.found.items ≡ looked_up (keys_of l.cells) done)
    × (g.N.Runner.refused_starts l.runner ≡ g.N.Runner.refused_starts l.fn.runner)
    × (g.K.KeySource.failed_with l.keys ≡ g.K.KeySource.failed_with l.fn.keys)

abbrev pub decreases-loop-room : goal.decreases-loop-room
decreases-loop-room g l = g.K.KeySource.left_of l.keys
