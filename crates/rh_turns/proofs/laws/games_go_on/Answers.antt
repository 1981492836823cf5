use Rattle.rh_turns.proofs.Playing.{hand_of, plays_done, plays_relies, plays_stopped}
use Rattle.rh_turns.proofs.Rounds.{plays_round}
use Rattle.rh_turns.proofs.Started.{plays_start}
use Rattle.rh_turns.proofs.Turned.{plays_turn}
use Rattle.rh_turns.proofs.laws.games_go_on.Goals as goal

pub returns-clause-starts : goal.returns-clause-starts
returns-clause-starts c = plays_start

pub returns-clause-may : goal.returns-clause-may
returns-clause-may c = λ g plays v other mine. (plays_relies g plays v mine other, hand_of g plays v mine other, plays_done g plays v mine other)

pub returns-clause-turns : goal.returns-clause-turns
returns-clause-turns c = plays_turn

pub returns-clause-rounds : goal.returns-clause-rounds
returns-clause-rounds c = λ g plays stopped. (plays_stopped g plays stopped, λ then cells wiped same hands size begins. plays_round g plays stopped then cells wiped same hands size begins)
