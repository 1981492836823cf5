use Rattle.std.proofs.Common.{◌+◌, ◌*◌}
use Rattle.rh_forks.proofs.mapping.+indices.Given as goal

abbrev pub decreases-map_indices : goal.decreases-map_indices
decreases-map_indices g l = 2 * l.n

abbrev pub decreases-before : goal.decreases-before
decreases-before g l = 2 * l.last + 1
