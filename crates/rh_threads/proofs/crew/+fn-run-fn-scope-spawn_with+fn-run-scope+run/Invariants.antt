use Rattle.std.proofs.Common.{◌+◌, ◌*◌}
use Rattle.rh_threads.proofs.crew.+fn-run-fn-scope-spawn_with+fn-run-scope+run.Given as goal

abbrev pub decreases-scope-spawn_with : goal.decreases-scope-spawn_with
decreases-scope-spawn_with g l = 3 * l.right.seat.count + 2

abbrev pub decreases-scope : goal.decreases-scope
decreases-scope g l = 3 * (l.left.seat.count + l.right.seat.count)

abbrev pub decreases-run : goal.decreases-run
decreases-run g l = 3 * l.crew.seat.count + 1
