use Rattle.std.proofs.Common.{◌≡◌, ℕ, ◌+◌, List, ◌++◌}
use Rattle.rh_turns.specs.Game.{Game}
use Rattle.rh_play_text.specs.declared.endings.Last.{Last}
use Rattle.rh_play_text.specs.declared.endings.Last.TheVariants.{Limit}
use Rattle.rh_play_run.specs.Pieces.{LogEntry, TellsPieces}
use Rattle.rh_play_run.specs.Schedule.{TurnsOf}
use Rattle.rh_play_run.proofs.turns.take_turns.Given as goal

abbrev pub invariant-turns : goal.invariant-turns
invariant-turns l = record {
  done : List LogEntry;
  tells : TellsPieces l.fn.log done l.log;
  turns : (more : ℕ) → l.counter + more ≡ l.turns → (told : Last) (rest : List LogEntry) (next : Game) → TurnsOf l.worker more l.player l.last told rest next
      → TurnsOf l.worker l.turns l.fn.player Limit told (done ++ rest) next;
}
