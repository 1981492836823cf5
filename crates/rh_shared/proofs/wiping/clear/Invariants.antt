use Rattle.std.proofs.Common.{◌≡◌, ◌+◌, []}
use Rattle.rh_rule.specs.Seats.{all_views}
use Rattle.rh_shared.specs.Ends.{with_cleared}
use Rattle.rh_shared.proofs.wiping.clear.Given as goal

abbrev pub ghosts-store : goal.ghosts-store
ghosts-store a = record { tells = λ me. me ≡ (all_views (with_cleared (a._row + 1)) a.seat.now.me.0, []) }
