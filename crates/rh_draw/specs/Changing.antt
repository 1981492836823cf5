-- What it is that a cell changes: a step leaves another word in it, or a descriptor succeeds that has an entry with another word
-- for it. A picture is drawn by other definitions (Changes, Words); the law on its columns does not speak of these.
use Rattle.std.specs.Prelude.{◌≡◌, ◌≢◌, ℕ, ◌+◌, ◌<◌, ◌≤◌, ◌⊎◌, List, [], ◌∷◌, ◌++◌, Some, replicate, slice_set}
use Rattle.rh_words.specs.Parts.{IsPart, cell_count, index_of}
use Rattle.rh_words.specs.declared.shape.Part.TheVariants.{Cell, Control, Length, EntryCell, EntryOld, EntryNew}
use Rattle.rh_words.specs.declared.shape.Shape.{Shape}
use Rattle.rh_rule.specs.Represents.{word_at}
use Rattle.rh_rule.specs.Wipes.{row_total}
use Rattle.rh_draw.specs.declared.records.Record.{Record}
use Rattle.rh_draw.specs.declared.records.Record.TheVariants.{Step, Round}
use Rattle.rh_draw.specs.declared.records.Window.{Window}
use Rattle.rh_tagword.specs.Control.{control_in}
use Rattle.rh_tagword.specs.declared.control.State.{State}
use Rattle.rh_tagword.specs.declared.control.State.TheVariants.{Undecided, Succeeded}
use Rattle.rh_recorder.specs.declared.recorder.Touched.{Touched}
use Rattle.rh_trace.specs.declared.traced.Traced.{Traced}

-- A step changes the word of a cell: it is a step on that cell, and left another word than it found.
pub record ChangesWord (touched : Touched) (cell : ℕ) : Type 0 where
  pub part : touched.part ≡ Cell cell
  pub word : touched.left ≢ touched.found

-- a word that is read as a control in this state, of any serial number
abbrev pub IsInState : (control : ℕ) → State → Type 0
IsInState control state = (serial : ℕ) × (control_in control ≡ Some (serial, state))

-- At a step the descriptor of a worker succeeds: its control was undecided, and has succeeded.
pub record Succeeds (z : Shape) (touched : Touched) (worker : ℕ) : Type 0 where
  pub part : touched.part ≡ Control worker
  pub known : worker < z.workers
  pub found : IsInState touched.found Undecided
  pub left : IsInState touched.left Succeeded

-- An entry of a worker's row changes a cell: it is one of so many as the length says, for that cell, and its words differ.
pub record EntryChanges (z : Shape) (words : List ℕ) (worker entry cell : ℕ) : Type 0 where
  pub counts : entry < word_at z words (Length worker)
  -- a row has no more
  pub fits : entry < cell_count z
  pub target : word_at z words (EntryCell worker entry) ≡ cell
  pub other : word_at z words (EntryNew worker entry) ≢ word_at z words (EntryOld worker entry)

-- A step changes the value of a cell: at it a descriptor succeeds that has an entry which changes the cell.
pub record ChangesValue (z : Shape) (words : List ℕ) (touched : Touched) (cell : ℕ) : Type 0 where
  pub worker : ℕ
  pub succeeds : Succeeds z touched worker
  pub entry : ℕ
  pub changes : EntryChanges z words worker entry cell

-- by the words before the step
abbrev pub Changes : Shape → (words : List ℕ) → Touched → (cell : ℕ) → Type 0
Changes z words touched cell = ChangesWord touched cell ⊎ ChangesValue z words touched cell

-- A step leaves its word at its part, and all else as it was. One that is on no part of the table leaves all as it was.
pub record Leaves (z : Shape) (words : List ℕ) (touched : Touched) (left : List ℕ) : Type 0 where
  pub part : IsPart z touched.part → left ≡ slice_set words (index_of z touched.part) touched.left
  pub none : ¬ IsPart z touched.part → left ≡ words

-- so do the steps of records, one after the other
abbrev pub LeaveAll : Shape → (words : List ℕ) → List Record → (left : List ℕ) → Type 0
LeaveAll z words [] left = left ≡ words
LeaveAll z words (Round next ∷ more) left = LeaveAll z words more left
LeaveAll z words (Step step ∷ more) left = (there : List ℕ) × Leaves z words step.touched there × LeaveAll z there more left

-- the words with which a play begins: all but the cells is 0
abbrev pub opening : Shape → (cells : List ℕ) → List ℕ
opening z cells = cells ++ replicate (row_total z + 1) 0

abbrev pub IsWithin : Window → (number : ℕ) → Type 0
IsWithin window number = (window.from ≤ number) × (number < window.from + window.steps)

-- A cell is changed in a window: a step of the window changes it, by the words that the records before that step left of those
-- at first.
pub record IsChanged (z : Shape) (first : List ℕ) (given : List Record) (window : Window) (cell : ℕ) : Type 0 where
  pub before : List Record
  pub step : Traced
  pub after : List Record
  pub splits : given ≡ before ++ (Step step ∷ after)
  pub within : IsWithin window step.number
  pub words : List ℕ
  pub left : LeaveAll z first before words
  pub changes : Changes z words step.touched cell
