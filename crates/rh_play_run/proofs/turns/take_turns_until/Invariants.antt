use Rattle.std.proofs.Common.{◌≡◌, ℕ, ◌+◌, List, ◌++◌}
use Rattle.rh_turns.specs.Game.{Game}
use Rattle.rh_play_text.specs.declared.endings.Last.{Last}
use Rattle.rh_play_run.specs.Pieces.{LogEntry, TellsPieces}
use Rattle.rh_play_run.specs.Schedule.{TurnsUntil}
use Rattle.rh_play_run.proofs.turns.take_turns_until.Given as goal

abbrev pub invariant-turns : goal.invariant-turns
invariant-turns l = record {
  done : List LogEntry;
  tells : TellsPieces l.fn.log done l.log;
  turns : (more : ℕ) → l.counter + more ≡ l.limit → (told : Last) (rest : List LogEntry) (next : Game) → TurnsUntil more l.worker l.kind l.player told rest next
      → TurnsUntil l.limit l.worker l.kind l.fn.player told (done ++ rest) next;
}
