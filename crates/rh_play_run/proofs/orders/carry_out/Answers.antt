use Rattle.std.proofs.Common.{refl}
use Rattle.rh_play_run.specs.Pieces.{round_pieces}
use Rattle.rh_play_run.proofs.Following.{rest_order, round_order, show_order, told_of, told_so, turn_order, until_order}
use Rattle.rh_play_run.proofs.orders.carry_out.Goals as goal

pub returns-in_ok-last-in-Turn : goal.returns-in_ok-last-in-Turn
returns-in_ok-last-in-Turn c =
    let turns = c.in_ok-last-in-Turn.ensures in
    told_of _ _ _ _ turns.0 _ _ _ _ _ c.in-Turn.is turns.2 refl refl refl c.push_turn.ensures (turn_order _ _ _ _ turns.0 _ turns.1)

pub returns-in_ok-last-in-Until : goal.returns-in_ok-last-in-Until
returns-in_ok-last-in-Until c =
    let turns = c.in_ok-last-in-Until.ensures in
    told_of _ _ _ _ turns.0 _ _ _ _ _ c.in-Until.is turns.2 refl refl refl c.push_until.ensures (until_order _ _ _ _ turns.0 _ turns.1)

pub returns-in_ok-rest-in-Rest : goal.returns-in_ok-rest-in-Rest
returns-in_ok-rest-in-Rest c =
    let turns = c.in_ok-rest-in-Rest.ensures.rests in
    told_of _ _ _ _ turns.0 _ _ _ _ _ c.in-Rest.is turns.2 refl refl refl c.push_rest.ensures (rest_order _ _ _ turns.0 turns.1 c.in_ok-rest-in-Rest.ensures.stands)

pub returns-in_ok-begin_round-in-Round : goal.returns-in_ok-begin_round-in-Round
returns-in_ok-begin_round-in-Round c =
    told_of _ _ _ _ (round_pieces c.begin_round-began.result) _ _ _ _ _ c.in-Round.is c.in_ok-begin_round-in-Round.ensures refl refl refl c.push_round.ensures (round_order _ _ _ c.begin_round-began.ensures)

pub returns-in-Show : goal.returns-in-Show
returns-in-Show c = told_so _ _ _ _ _ _ _ _ c.in-Show.is refl refl refl c.show.ensures (show_order _)
