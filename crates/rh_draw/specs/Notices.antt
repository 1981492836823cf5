-- The moments at which a picture says something: a descriptor is decided, or a mark is settled to one that is over.
use Rattle.std.specs.Prelude.{◌≡◌, ℕ, ◌-◌, ◌/◌, ◌==◌, nat_lt, Bool, false, if◌then◌else◌, List, [], ◌∷◌, ◌++◌, Option, Some, None}
use Rattle.rh_words.specs.declared.shape.Part.{Part}
use Rattle.rh_words.specs.declared.shape.Part.TheVariants.{Cell, Control}
use Rattle.rh_words.specs.declared.shape.Shape.{Shape}
use Rattle.rh_draw.specs.Changes.{decided, has_succeeded}
use Rattle.rh_draw.specs.Places.{moment_of, moment_y}
use Rattle.rh_draw.specs.Records.{is_drawn}
use Rattle.rh_rule.specs.Represents.{word_at}
use Rattle.rh_draw.specs.Changing.{LeaveAll}
use Rattle.rh_draw.specs.declared.limits.TheConstants.{LANE, LEFT}
use Rattle.rh_draw.specs.declared.records.Record.{Record}
use Rattle.rh_draw.specs.declared.records.Record.TheVariants.{Step, Round}
use Rattle.rh_draw.specs.declared.records.Window.{Window}
use Rattle.rh_svg.specs.declared.looks.Look.{Look}
use Rattle.rh_svg.specs.declared.looks.Look.TheVariants as looks
use Rattle.rh_draw.specs.Reading.{line_of}
use Rattle.rh_svg.specs.declared.tags.Tag.{Tag}
use Rattle.rh_tagword.specs.Control.{control_in, is_decided}
use Rattle.rh_tagword.specs.Word.{word_in}
use Rattle.rh_tagword.specs.declared.control.State.{State}
use Rattle.rh_tagword.specs.declared.word.Word.{Word}
use Rattle.rh_tagword.specs.declared.word.Word.TheVariants.{Desc}
use Rattle.rh_recorder.specs.declared.recorder.Touched.{Touched}

abbrev pub decision_look : Option State → Option Look
decision_look None = None
decision_look (Some state) = if has_succeeded (Some state) then Some looks.Act else Some looks.Decision

-- the worker and the serial number of the descriptor that a word refers to
abbrev pub desc_named : Option Word → Option (ℕ × ℕ)
desc_named (Some (Desc worker number)) = Some (worker, number)
desc_named word = None

-- those of the descriptor to which a step swapped a cell
abbrev pub promoted : Touched → Option (ℕ × ℕ)
promoted touched = if touched.left == touched.found then None else desc_named (word_in touched.left)

-- whether the descriptor of this number is decided by this control, or it is stale
abbrev pub is_over : (number : ℕ) → (control : Option (ℕ × State)) → Bool
is_over number None = false
is_over number (Some control) = if number == control.0 then is_decided control.1 else nat_lt number control.0

-- a descriptor to which a cell is swapped, if it is over by then
-- (it decides nothing, and is told all the same: the order of two lines shows that it comes after the decision)
abbrev pub late : Shape → (words : List ℕ) → (desc : Option (ℕ × ℕ)) → Option (ℕ × ℕ)
late z words None = None
late z words (Some desc) =
    if nat_lt desc.0 z.workers
    then (if is_over desc.1 (control_in (word_at z words (Control desc.0))) then Some desc else None)
    else None

abbrev pub late_look : (desc : Option (ℕ × ℕ)) → Option Look
late_look None = None
late_look (Some desc) = Some looks.Late

-- how the line of a step looks, if it says something: by the words before it
abbrev pub notice_look : Shape → (words : List ℕ) → Part → Touched → Option Look
notice_look z words (Cell c) touched = late_look (late z words (promoted touched))
notice_look z words (Control worker) touched = decision_look (decided touched)
notice_look z words part touched = None

-- a line across all lanes and columns
abbrev pub notice_line : (right moment : ℕ) → Option Look → List Tag
notice_line right moment None = []
notice_line right moment (Some look) = line_of (LEFT - LANE / 2) (moment_y moment) right (moment_y moment) look

abbrev pub notice : Shape → Window → (right : ℕ) → (words : List ℕ) → Record → List Tag
notice z window right words (Round next) = []
notice z window right words (Step step) =
    if is_drawn window step.number
    then notice_line right (moment_of window step.number) (notice_look z words step.touched.part step.touched)
    else []

-- The lines of all records, one after the other, by the words that those before them left.
abbrev pub AreNotices : Shape → Window → (right : ℕ) → (words : List ℕ) → List Record → (lines : List Tag) → Type 0
AreNotices z window right words [] lines = lines ≡ []
AreNotices z window right words (given ∷ more) lines =
    (there : List ℕ) × (rest : List Tag) × LeaveAll z words (given ∷ []) there × (lines ≡ notice z window right words given ++ rest)
    × AreNotices z window right there more rest
