use Rattle.rh_turns.proofs.Ended.{plays_ends}
use Rattle.rh_turns.proofs.Playing.{plays_moment, plays_readable}
use Rattle.rh_turns.proofs.Telling.{plays_tells}
use Rattle.rh_turns.proofs.laws.games_make.Goals as goal

pub returns-clause-so_far : goal.returns-clause-so_far
returns-clause-so_far c = λ g plays. (plays_readable g plays, plays_moment g plays, plays_tells g plays)

pub returns-clause-at_the_end : goal.returns-clause-at_the_end
returns-clause-at_the_end c = λ g plays finished. plays_ends g plays finished
