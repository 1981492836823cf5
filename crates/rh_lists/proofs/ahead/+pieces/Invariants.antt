use Rattle.std.proofs.Common.{◌+◌, ◌*◌}
use Rattle.rh_lists.proofs.ahead.+pieces.Given as goal

abbrev pub decreases-ours : goal.decreases-ours
decreases-ours g l = 2 * l.workers.count + 1

abbrev pub decreases-read_pieces : goal.decreases-read_pieces
decreases-read_pieces g l = 2 * l.team.now.workers.count
