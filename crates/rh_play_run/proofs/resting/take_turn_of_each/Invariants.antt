use Rattle.std.proofs.Common.{◌≡◌, ℕ, ◌+◌, Bool, false, List, ◌++◌}
use Rattle.rh_turns.specs.Game.{Game}
use Rattle.rh_play_run.specs.Pieces.{LogEntry, TellsPieces}
use Rattle.rh_play_run.specs.Schedule.{TurnOfEach}
use Rattle.rh_play_run.proofs.resting.take_turn_of_each.Given as goal

abbrev pub invariant-loop-worker : goal.invariant-loop-worker
invariant-loop-worker l = record {
  done : List LogEntry;
  tells : TellsPieces l.fn.log done l.log;
  turns : (more : ℕ) → l.worker + more ≡ l.count → (some : Bool) (rest : List LogEntry) (next : Game) → TurnOfEach more l.worker l.player l.some some rest next
      → TurnOfEach l.count 0 l.fn.player false some (done ++ rest) next;
}
