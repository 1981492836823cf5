use Rattle.std.proofs.Common.{List, ◌++◌, drop}
use Rattle.rh_turns.specs.Game.{Game}
use Rattle.rh_play_run.specs.Pieces.{LogEntry, TellsPieces}
use Rattle.rh_play_run.specs.Schedule.{CarriesOutAll, HasSize}
use Rattle.rh_play_run.proofs.schedule.follow.Given as goal

abbrev pub invariant-loop-order : goal.invariant-loop-order
invariant-loop-order l = record {
  size : HasSize l.size.workers l.size.cells l.player;
  done : List LogEntry;
  tells : TellsPieces l.fn.log done l.log;
  follows : (others : List LogEntry) (next : Game) → CarriesOutAll (drop l.order-index l.orders) l.player others next → CarriesOutAll l.orders l.fn.player (done ++ others) next;
}
