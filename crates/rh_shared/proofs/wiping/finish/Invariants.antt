use Rattle.std.proofs.Common.{◌≡◌, []}
use Rattle.rh_rule.specs.Seats.{all_views}
use Rattle.rh_shared.specs.Ends.{renewed}
use Rattle.rh_shared.proofs.wiping.finish.Given as goal

abbrev pub ghosts-load : goal.ghosts-load
ghosts-load a = record { tells = λ me. me ≡ (all_views renewed a.seat.now.me.0, []) }
