use Rattle.std.proofs.Common.{append-nil, refl}
use Rattle.rh_play_run.specs.Pieces.{turn_pieces}
use Rattle.rh_play_run.proofs.Following.{then_tells}
use Rattle.rh_play_run.proofs.turns.take_turn.Goals as goal

pub returns : goal.returns
returns c = (
  turn_pieces c.args.worker c.trace-turn.result.0 c.trace-turn.result.1,
  record { touched = c.trace-turn.result.1; traced = c.trace-turn.ensures; pieces_are = refl },
  rw append-nil at (then_tells _ _ _ _ _ c.in_ok-take.ensures c.in_ok-keep.ensures),
)
