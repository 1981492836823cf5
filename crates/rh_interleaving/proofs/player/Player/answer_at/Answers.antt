use Rattle.std.proofs.Common.{subst}
use Rattle.rh_turns.specs.Game.{Plays}
use Rattle.rh_interleaving.proofs.Answering.{answer_list, answers_list}
use Rattle.rh_interleaving.proofs.player.Player.answer_at.Goals as goal

pub returns-in-Claims-clause-finished : goal.returns-in-Claims-clause-finished
returns-in-Claims-clause-finished c = λ shared. answers_list c.args.self.now (subst Plays c.self.view_is c.self.invariant) c.args.position c.recorded_answer.result c.recorded_answer.ensures.answer

pub returns-in-Claims-clause-asked : goal.returns-in-Claims-clause-asked
returns-in-Claims-clause-asked c = λ asks shared. answer_list c.args.self.now (subst Plays c.self.view_is c.self.invariant) asks c.args.position c.recorded_answer.result c.recorded_answer.ensures.answer
