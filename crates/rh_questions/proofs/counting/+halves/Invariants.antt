use Rattle.std.proofs.Common.{◌+◌, ◌*◌}
use Rattle.rh_questions.proofs.counting.+halves.Given as goal

abbrev pub decreases-count_by_team : goal.decreases-count_by_team
decreases-count_by_team g l = 2 * l.team.now.workers.count

abbrev pub decreases-theirs : goal.decreases-theirs
decreases-theirs g l = 2 * l.first.count + 1

abbrev pub decreases-ours : goal.decreases-ours
decreases-ours g l = 2 * l.others.count + 1
