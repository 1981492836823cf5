-- What the lines of a play's text say, with keys as lists.
use Rattle.std.specs.Prelude.{ℕ, List}
use Rattle.rh_ledger.specs.declared.tally.Kind.{Kind}
use Rattle.rh_play_text.specs.declared.schedule.Order.{Order}

pub data Saying : Type 0 where
  Play : (kind : Kind) → Saying
  Bits : (bits : ℕ) → Saying
  Held : (keys : List ℕ) → Saying
  Rooms : (descriptors marks : ℕ) → Saying
  Work : (keys : List ℕ) → Saying
  Share : (workers : ℕ) (keys : List ℕ) → Saying
  Schedule : (order : Order) → Saying

-- what the last line was, and so what may come next
pub data TextStage : Type 0 where
  AtStart : TextStage
  AfterPlay : TextStage
  AfterBits : TextStage
  AfterHeld : TextStage
  AfterRooms : TextStage
  AmongWork : TextStage
  AmongSchedule : TextStage
