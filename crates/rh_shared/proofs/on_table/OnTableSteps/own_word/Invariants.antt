use Rattle.rh_words.specs.Requests.{step_asked}
use Rattle.rh_shared.proofs.on_table.OnTableSteps.own_word.Given as goal

abbrev pub ghosts-look : goal.ghosts-look
ghosts-look a = record { shape = a.here.now.table.now.shape; view = a._side.now.known.view; step = step_asked a._ask }
