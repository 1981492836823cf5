use Rattle.rh_rule.specs.Seats.{Begun}
use Rattle.rh_shared.proofs.wiping.begin.Given as goal

abbrev pub ghosts-load : goal.ghosts-load
ghosts-load a = record { tells = Begun a.table.now.shape a.seat.now.me.0 }
