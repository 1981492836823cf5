use Rattle.std.proofs.Common.{◌+◌, ◌*◌}
use Rattle.rh_cutting.proofs.lists.+halves.Given as goal

abbrev pub decreases-cut_pieces : goal.decreases-cut_pieces
decreases-cut_pieces g l = 2 * l.team.now.workers.count

abbrev pub decreases-theirs : goal.decreases-theirs
decreases-theirs g l = 2 * l.first.count + 1

abbrev pub decreases-ours : goal.decreases-ours
decreases-ours g l = 2 * l.others.count + 1
