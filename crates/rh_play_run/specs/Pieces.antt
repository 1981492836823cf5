-- What is told of a play, piece by piece.
use Rattle.std.specs.Prelude.{◌≡◌, ℕ, ◌+◌, ◌-◌, ◌^◌, ◌≤◌, min, Bool, true, false, List, [], ◌∷◌, ◌++◌, Option, Some, None}
use Rattle.rh_words.specs.declared.steps.StepKind.{StepKind}
use Rattle.rh_recorder.specs.declared.recorder.Touched.{Touched}
use Rattle.rh_turns.specs.declared.turning.Turn.{Turn}
use Rattle.rh_turns.specs.declared.turning.Turn.TheVariants as turn
use Rattle.rh_trace.specs.Telling.{step_line}
use Rattle.rh_trace.specs.declared.traced.Traced.{Traced}
use Rattle.rh_draw.specs.declared.records.Record.{Record}
use Rattle.rh_draw.specs.declared.records.Record.TheVariants.{Step, Round}
use Rattle.rh_play_run.specs.declared.limits.TheConstants.{MAX_TOLD}
use Rattle.rh_play_run.specs.declared.log.Log.{Log}
use Rattle.rh_play_run.specs.declared.log.Telling.{Telling}
use Rattle.rh_play_run.specs.declared.log.Telling.TheVariants.{Orders, Steps, Records}

pub data LogEntry : Type 0 where
  -- a step of a worker, and what it touched
  step : (worker : ℕ) → StepKind → Touched → LogEntry
  -- a further round began
  round : LogEntry
  -- the lines of an order
  lines : (text : List ℕ) → LogEntry

-- what is told of a turn: a step, or nothing
abbrev pub turn_pieces : (worker : ℕ) → Turn → Option Touched → List LogEntry
turn_pieces worker (turn.Did kind) (Some touched) = LogEntry.step worker kind touched ∷ []
turn_pieces worker (turn.Did kind) None = []
turn_pieces worker turn.Finished touched = []
turn_pieces worker turn.Spent touched = []
turn_pieces worker turn.NoSuchWorker touched = []

-- what is told of an order for a further round, before its line
abbrev pub round_pieces : (began : Bool) → List LogEntry
round_pieces true = LogEntry.round ∷ []
round_pieces false = []

-- the steps with one more, up to the greatest number
abbrev pub one_step_more : (steps : ℕ) → ℕ
one_step_more steps = min (steps + 1) (2 ^ 64 - 1)

-- how many steps were made after it
abbrev pub steps_with : (steps : ℕ) → LogEntry → ℕ
steps_with steps (LogEntry.step worker kind touched) = one_step_more steps
steps_with steps LogEntry.round = steps
steps_with steps (LogEntry.lines text) = steps

-- the step that comes after so many
abbrev pub traced : (steps worker : ℕ) → StepKind → Touched → Traced
traced steps worker kind touched = record { number = one_step_more steps; worker = worker; kind = kind; touched = touched }

-- its text after so many steps
abbrev pub piece_text : Telling → (steps : ℕ) → LogEntry → List ℕ
piece_text Orders steps (LogEntry.step worker kind touched) = []
piece_text Steps steps (LogEntry.step worker kind touched) = step_line (traced steps worker kind touched)
piece_text Records steps (LogEntry.step worker kind touched) = []
piece_text telling steps LogEntry.round = []
piece_text telling steps (LogEntry.lines text) = text

-- its record after so many steps, where records are kept
abbrev pub piece_records : Telling → (steps : ℕ) → LogEntry → List Record
piece_records Orders steps piece = []
piece_records Steps steps piece = []
piece_records Records steps (LogEntry.step worker kind touched) = Step (traced steps worker kind touched) ∷ []
piece_records Records steps LogEntry.round = Round (one_step_more steps) ∷ []
piece_records Records steps (LogEntry.lines text) = []

-- the text of all of them
abbrev pub told : Telling → (steps : ℕ) → List LogEntry → List ℕ
told telling steps [] = []
told telling steps (p ∷ pieces) = piece_text telling steps p ++ told telling (steps_with steps p) pieces

-- the records of all of them
abbrev pub recorded : Telling → (steps : ℕ) → List LogEntry → List Record
recorded telling steps [] = []
recorded telling steps (p ∷ pieces) = piece_records telling steps p ++ recorded telling (steps_with steps p) pieces

abbrev pub steps_after : (steps : ℕ) → List LogEntry → ℕ
steps_after steps [] = steps
steps_after steps (p ∷ pieces) = steps_after (steps_with steps p) pieces

-- Steps are not too many to be told, where so much is told.
abbrev pub MayBeTold : Telling → (steps : ℕ) → Type 0
MayBeTold Orders steps = Unit {0}
MayBeTold Steps steps = steps ≤ MAX_TOLD
MayBeTold Records steps = steps ≤ MAX_TOLD

-- These were told, where the steps are not too many.
pub record TellsPieces (old : Log) (pieces : List LogEntry) (new : Log) : Type 0 where
  pub telling : new.telling ≡ old.telling
  pub steps : new.steps ≡ steps_after old.steps pieces
  pub text : MayBeTold old.telling new.steps → new.text.items ≡ old.text.items ++ told old.telling old.steps pieces
  pub records : MayBeTold old.telling new.steps → new.records.items ≡ old.records.items ++ recorded old.telling old.steps pieces
