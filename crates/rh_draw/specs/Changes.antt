-- What steps change: words, and by acts the values of cells.
use Rattle.std.specs.Prelude.{ℕ, zero, suc, ◌==◌, nat_lt, min, Bool, true, false, if◌then◌else◌, List, [], ◌∷◌, ◌++◌, Option, Some, None, slice_set}
use Rattle.rh_words.specs.Parts.{cell_count}
use Rattle.rh_words.specs.declared.shape.Part.{Part}
use Rattle.rh_words.specs.declared.shape.Part.TheVariants.{Cell, Control, Length, EntryCell, EntryOld, EntryNew}
use Rattle.rh_words.specs.declared.shape.Shape.{Shape}
use Rattle.rh_rule.specs.Represents.{word_at}
use Rattle.rh_tagword.specs.Control.{control_in, is_decided}
use Rattle.rh_tagword.specs.declared.control.State.{State}
use Rattle.rh_tagword.specs.declared.control.State.TheVariants.{Undecided, Succeeded}
use Rattle.rh_recorder.specs.declared.recorder.Touched.{Touched}

-- ---- decisions

-- what a control was decided to that was found and left in these states
abbrev pub outcome : (found left : State) → Option State
outcome Undecided left = if is_decided left then Some left else None
outcome found left = None

abbrev pub outcome_in : (found left : Option (ℕ × State)) → Option State
outcome_in None left = None
outcome_in (Some found) None = None
outcome_in (Some found) (Some left) = outcome found.1 left.1

abbrev pub decided_at : Part → Touched → Option State
decided_at (Control worker) touched = outcome_in (control_in touched.found) (control_in touched.left)
decided_at part touched = None

-- what a step decided a descriptor to, if it did
abbrev pub decided : Touched → Option State
decided touched = decided_at touched.part touched

abbrev pub has_succeeded : Option State → Bool
has_succeeded (Some Succeeded) = true
has_succeeded state = false

-- whether the step is the one at which a descriptor succeeds
abbrev pub is_act : Touched → Bool
is_act touched = has_succeeded (decided touched)

-- ---- the entries of a worker's row

abbrev pub entry_count : Shape → (words : List ℕ) → (worker : ℕ) → ℕ
entry_count z words worker = if nat_lt worker z.workers then min (word_at z words (Length worker)) (cell_count z) else 0

-- the cell of an entry, if the entry changes it
abbrev pub entry_cell : Shape → (words : List ℕ) → (worker entry : ℕ) → List ℕ
entry_cell z words worker e =
    if word_at z words (EntryNew worker e) == word_at z words (EntryOld worker e)
    then []
    else word_at z words (EntryCell worker e) ∷ []

-- the cells that the first entries change
abbrev pub entry_cells : Shape → (words : List ℕ) → (worker count : ℕ) → List ℕ
entry_cells z words worker zero = []
entry_cells z words worker (suc e) = entry_cells z words worker e ++ entry_cell z words worker e

-- ---- steps

abbrev pub cells_at : Shape → (words : List ℕ) → Part → Touched → List ℕ
cells_at z words (Cell c) touched = if touched.left == touched.found then [] else c ∷ []
cells_at z words (Control worker) touched = if is_act touched then entry_cells z words worker (entry_count z words worker) else []
cells_at z words part touched = []

-- the cells of which a step changes the word or the value
abbrev pub changed_cells : Shape → (words : List ℕ) → Touched → List ℕ
changed_cells z words touched = cells_at z words touched.part touched

-- the list with this word at all these places
abbrev pub set_all : (list places : List ℕ) → (word : ℕ) → List ℕ
set_all list [] word = list
set_all list (place ∷ more) word = set_all (slice_set list place word) more word
