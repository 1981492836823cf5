use Rattle.std.proofs.Common.{◌≡◌, ℕ, ◌+◌, List, ◌++◌, length}
use Rattle.rh_turns.specs.Game.{Game}
use Rattle.rh_play_run.specs.Pieces.{LogEntry, TellsPieces}
use Rattle.rh_play_run.specs.Schedule.{PassesToRest}
use Rattle.rh_play_run.proofs.resting.take_passes.Given as goal

abbrev pub invariant-passes : goal.invariant-passes
invariant-passes l = record {
  workers : length l.player.hands ≡ l.workers;
  done : List LogEntry;
  tells : TellsPieces l.fn.log done l.log;
  rests : (left : ℕ) → l.counter + left ≡ l.passes → (rest : List LogEntry) (next : Game) → PassesToRest left l.more l.player rest next → PassesToRest l.passes l.more l.fn.player (done ++ rest) next;
}
