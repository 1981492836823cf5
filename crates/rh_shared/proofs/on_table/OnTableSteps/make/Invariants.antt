use Rattle.rh_words.specs.Requests.{step_asked}
use Rattle.rh_shared.proofs.on_table.OnTableSteps.make.Given as goal

abbrev pub ghosts-load : goal.ghosts-load
ghosts-load a = record { shape = a.here.now.table.now.shape; view = a._side.now.known.view; step = step_asked a._ask }

abbrev pub ghosts-exchange : goal.ghosts-exchange
ghosts-exchange a = record { shape = a.here.now.table.now.shape; view = a._side.now.known.view; step = step_asked a._ask }

abbrev pub ghosts-swap : goal.ghosts-swap
ghosts-swap a = record { shape = a.here.now.table.now.shape; view = a._side.now.known.view; step = step_asked a._ask }

abbrev pub ghosts-count : goal.ghosts-count
ghosts-count a = record { shape = a.here.now.table.now.shape; view = a._side.now.known.view; step = step_asked a._ask }
