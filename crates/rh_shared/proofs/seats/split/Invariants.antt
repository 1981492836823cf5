use Rattle.rh_shared.proofs.seats.split.Given as goal

abbrev pub ghosts-cut : goal.ghosts-cut
ghosts-cut a = record { at = a._at }
