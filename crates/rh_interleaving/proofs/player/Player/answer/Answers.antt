use Rattle.std.proofs.Common.{◌∙◌, ◌<◌, length, ap, subst, arith, get_or}
use Rattle.rh_turns.specs.Game.{Game, Plays}
use Rattle.rh_interleaving.proofs.Answering.{answer_piece, answers_piece, none_of_nobody, recorded_in_piece, none_past_piece, none_where_shared}
use Rattle.rh_interleaving.proofs.player.Player.answer.Goals as goal

pub returns-then-worker-len-clause-answer : goal.returns-then-worker-len-clause-answer
returns-then-worker-len-clause-answer c =
    let size = ap (λ (g : Game). length g.hands) c.self.view_is in
    none_of_nobody c.args.self.now c.args.worker c.args.position (omega (arith, c.if-worker-len.true, c.len.ensures, c.self.inside.hands.ok, size))

pub returns-then-position-end-clause-answer : goal.returns-then-position-end-clause-answer
returns-then-position-end-clause-answer c =
    let inside : c.args.worker < length c.args.self.now.hands =
    subst (λ (g : Game). c.args.worker < length g.hands) c.self.view_is (omega (arith, c.if-worker-len.false, c.len.ensures, c.self.inside.hands.ok)) in
    let hand_is = c.index.ensures ∙ ap (λ (g : Game). get_or g.hands c.args.worker c.index.result.now) c.self.view_is in
    none_past_piece c.args.self.now c.args.worker c.args.position c.index.result.now inside hand_is c.in-Piece.first c.in-Piece.end c.in-Piece.is c.if-position-end.true

pub returns-then-position-end-clause-finished : goal.returns-then-position-end-clause-finished
returns-then-position-end-clause-finished c =
    answers_piece c.args.self.now (subst Plays c.self.view_is c.self.invariant) c.args.worker c.args.position _ (returns-then-position-end-clause-answer c)

pub returns-else-position-end-clause-answer : goal.returns-else-position-end-clause-answer
returns-else-position-end-clause-answer c =
    let inside : c.args.worker < length c.args.self.now.hands =
    subst (λ (g : Game). c.args.worker < length g.hands) c.self.view_is (omega (arith, c.if-worker-len.false, c.len.ensures, c.self.inside.hands.ok)) in
    let hand_is = c.index.ensures ∙ ap (λ (g : Game). get_or g.hands c.args.worker c.index.result.now) c.self.view_is in
    c.recorded_answer.ensures.answer ∙ recorded_in_piece c.args.self.now c.args.worker c.args.position c.index.result.now inside hand_is c.in-Piece.first c.in-Piece.end c.in-Piece.is c.if-position-end.false

pub returns-else-position-end-clause-finished : goal.returns-else-position-end-clause-finished
returns-else-position-end-clause-finished c =
    answers_piece c.args.self.now (subst Plays c.self.view_is c.self.invariant) c.args.worker c.args.position _ (returns-else-position-end-clause-answer c)

pub returns-in-Claims-clause-answer : goal.returns-in-Claims-clause-answer
returns-in-Claims-clause-answer c =
    let inside : c.args.worker < length c.args.self.now.hands =
    subst (λ (g : Game). c.args.worker < length g.hands) c.self.view_is (omega (arith, c.if-worker-len.false, c.len.ensures, c.self.inside.hands.ok)) in
    let hand_is = c.index.ensures ∙ ap (λ (g : Game). get_or g.hands c.args.worker c.index.result.now) c.self.view_is in
    none_where_shared c.args.self.now c.args.worker c.args.position c.index.result.now inside hand_is c.in-Claims.last c.in-Claims.ended c.in-Claims.is

pub returns-in-Claims-clause-finished : goal.returns-in-Claims-clause-finished
returns-in-Claims-clause-finished c =
    answers_piece c.args.self.now (subst Plays c.self.view_is c.self.invariant) c.args.worker c.args.position _ (returns-in-Claims-clause-answer c)

pub returns-then-position-end-clause-asked : goal.returns-then-position-end-clause-asked
returns-then-position-end-clause-asked c = λ asks.
    answer_piece c.args.self.now (subst Plays c.self.view_is c.self.invariant) asks c.args.worker c.args.position _ (returns-then-position-end-clause-answer c)

pub returns-else-position-end-clause-asked : goal.returns-else-position-end-clause-asked
returns-else-position-end-clause-asked c = λ asks.
    answer_piece c.args.self.now (subst Plays c.self.view_is c.self.invariant) asks c.args.worker c.args.position _ (returns-else-position-end-clause-answer c)

pub returns-in-Claims-clause-asked : goal.returns-in-Claims-clause-asked
returns-in-Claims-clause-asked c = λ asks.
    answer_piece c.args.self.now (subst Plays c.self.view_is c.self.invariant) asks c.args.worker c.args.position _ (returns-in-Claims-clause-answer c)
