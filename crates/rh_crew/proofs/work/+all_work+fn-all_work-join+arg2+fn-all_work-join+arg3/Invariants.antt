use Rattle.std.proofs.Common.{◌+◌, ◌*◌}
use Rattle.rh_crew.proofs.work.+all_work+fn-all_work-join+arg2+fn-all_work-join+arg3.Given as goal

abbrev pub decreases-all_work : goal.decreases-all_work
decreases-all_work g l = 2 * l.seat.count + 1

abbrev pub decreases-join+arg2 : goal.decreases-join+arg2
decreases-join+arg2 g l = 2 * l.second.count + 2

abbrev pub decreases-join+arg3 : goal.decreases-join+arg3
decreases-join+arg3 g l = 2 * l.first.count + 2
