-- The rows of the steps: their marks, lines to the workers whom they are about; and where rounds begin.
use Rattle.std.specs.Prelude.{ℕ, ◌+◌, ◌-◌, ◌/◌, ◌==◌, if◌then◌else◌, List, [], ◌∷◌, ◌++◌, Option, Some, None, get_or, replicate, set}
use Rattle.rh_words.specs.declared.shape.Part.{Part}
use Rattle.rh_words.specs.declared.shape.Part.TheVariants.{Cell, Control, Serial, Length, EntryCell, EntryOld, EntryNew, MarkSerial, MarkDesc, MarkEntry, Reason}
use Rattle.rh_words.specs.declared.steps.StepKind.{StepKind}
use Rattle.rh_words.specs.declared.steps.StepKind.TheVariants.{Read}
use Rattle.rh_draw.specs.Places.{lane_x, moment_of, moment_y}
use Rattle.rh_draw.specs.Records.{is_before, is_drawn}
use Rattle.rh_draw.specs.declared.limits.TheConstants.{ROUNDS, ROW}
use Rattle.rh_svg.specs.declared.looks.Look.TheVariants as looks
use Rattle.rh_draw.specs.declared.records.Record.{Record}
use Rattle.rh_draw.specs.declared.records.Record.TheVariants.{Step, Round}
use Rattle.rh_draw.specs.declared.records.Window.{Window}
use Rattle.rh_svg.specs.declared.tags.Tag.{Tag}
use Rattle.rh_svg.specs.declared.tags.Tag.TheVariants as tags
use Rattle.rh_tagword.specs.Word.{word_in}
use Rattle.rh_tagword.specs.declared.word.Word.{Word}
use Rattle.rh_tagword.specs.declared.word.Word.TheVariants.{Desc}
use Rattle.rh_recorder.specs.declared.recorder.Touched.{Touched}
use Rattle.rh_trace.specs.declared.traced.Traced.{Traced}

-- ---- whose descriptor or mark a step is about

abbrev pub desc_owner : Option Word → Option ℕ
desc_owner (Some (Desc worker number)) = Some worker
desc_owner word = None

-- of which worker's descriptor a part has the row, or a reason for it, or is the mark that a worker has for it
abbrev pub row_owner : Part → Touched → Option ℕ
row_owner (Control worker) touched = Some worker
row_owner (Serial worker) touched = Some worker
row_owner (Length worker) touched = Some worker
row_owner (EntryCell worker entry) touched = Some worker
row_owner (EntryOld worker entry) touched = Some worker
row_owner (EntryNew worker entry) touched = Some worker
row_owner (MarkDesc worker) touched = desc_owner (word_in touched.left)
row_owner (Reason worker owner) touched = Some owner
row_owner part touched = None

-- For each worker whose descriptor it is at: the one whose row it read or wrote last.
abbrev pub at_owner : (whose : List (Option ℕ)) → (worker : ℕ) → Option ℕ → List (Option ℕ)
at_owner whose worker None = whose
at_owner whose worker (Some owner) = set whose worker (Some owner)

abbrev pub at_then : (whose : List (Option ℕ)) → Traced → List (Option ℕ)
at_then whose step = at_owner whose step.worker (row_owner step.touched.part step.touched)

abbrev pub at_first : (workers : ℕ) → List (Option ℕ)
at_first workers = replicate workers None

abbrev pub unless_read : StepKind → Option ℕ → Option ℕ
unless_read Read whose = None
unless_read kind whose = whose

-- A step at a cell, but a read, and one at its own mark row is about the descriptor that its worker is at; one at another mark
-- row about that worker; any other one about the worker whose row it is at.
abbrev pub owner_in : (whose : Option ℕ) → Part → Traced → Option ℕ
owner_in whose (Cell c) step = unless_read step.kind whose
owner_in whose (MarkSerial worker) step = if worker == step.worker then whose else Some worker
owner_in whose (MarkDesc worker) step = if worker == step.worker then whose else Some worker
owner_in whose (MarkEntry worker) step = if worker == step.worker then whose else Some worker
owner_in whose part step = row_owner part step.touched

abbrev pub owner_of : (whose : Option ℕ) → Traced → Option ℕ
owner_of whose step = owner_in whose step.touched.part step

abbrev pub other_than : (worker : ℕ) → Option ℕ → Option ℕ
other_than worker None = None
other_than worker (Some owner) = if owner == worker then None else Some owner

-- the other worker about whose descriptor or mark a step is, if it is about one
abbrev pub helped : (whose : List (Option ℕ)) → Traced → Option ℕ
helped whose step = other_than step.worker (owner_of (get_or whose step.worker None) step)

-- ---- rows

-- from the lane of a worker to that of another
abbrev pub help_line : (worker y : ℕ) → (other : Option ℕ) → List Tag
help_line worker y None = []
help_line worker y (Some other) = tags.Line (lane_x worker) y (lane_x other) y (looks.Help other) ∷ []

-- the line across all lanes at which a round begins, between two steps
abbrev pub round_mark : (workers moment : ℕ) → Tag
round_mark workers moment = tags.Line ROUNDS (moment_y moment + ROW / 2) (lane_x workers) (moment_y moment + ROW / 2) looks.Round

-- of a step of the window its mark: in the lane of its worker, at the height of its number
abbrev pub mark_of : Window → Record → List Tag
mark_of window (Round next) = []
mark_of window (Step step) =
    if is_drawn window step.number
    then tags.Mark (lane_x step.worker) (moment_y (moment_of window step.number)) step.kind ∷ []
    else []

-- of such a step about another worker's descriptor or mark the line to the lane of that worker; of a round its line
-- Step 31 of examples/helping.play, a Decide of worker 1 at the control of worker 0, has a star in lane 1 and a line to lane 0.
abbrev pub record_lines : Window → (workers : ℕ) → (whose : List (Option ℕ)) → Record → List Tag
record_lines window workers whose (Round next) = if is_before window next then round_mark workers (next - window.from) ∷ [] else []
record_lines window workers whose (Step step) =
    if is_drawn window step.number
    then help_line step.worker (moment_y (moment_of window step.number)) (helped whose step)
    else []

abbrev pub at_after : (whose : List (Option ℕ)) → Record → List (Option ℕ)
at_after whose (Round next) = whose
at_after whose (Step step) = at_then whose step

-- those of all records, one after the other
abbrev pub row_lines : Window → (workers : ℕ) → (whose : List (Option ℕ)) → List Record → List Tag
row_lines window workers whose [] = []
row_lines window workers whose (given ∷ more) =
    record_lines window workers (at_after whose given) given ++ row_lines window workers (at_after whose given) more
