-- The line of a step. Numbers are decimal without leading zeros.
use Rattle.std.specs.Prelude.{ℕ, ◌==◌, if◌then◌else◌, List, [], ◌++◌, Option, Some, None, codes, decimal}
use Rattle.rh_words.specs.declared.shape.Part.{Part}
use Rattle.rh_words.specs.declared.shape.Part.TheVariants.{Cell, Control, Serial, Length, EntryCell, EntryOld, EntryNew, MarkSerial, MarkDesc, MarkEntry, Reason, Counter}
use Rattle.rh_play_text.specs.Words.{kind_word}
use Rattle.rh_tagword.specs.Control.{control_in}
use Rattle.rh_tagword.specs.Word.{word_in}
use Rattle.rh_tagword.specs.declared.control.State.{State}
use Rattle.rh_tagword.specs.declared.control.State.TheVariants.{Unused, Undecided, Succeeded, Withdrawn, Failed}
use Rattle.rh_tagword.specs.declared.word.Word.{Word}
use Rattle.rh_tagword.specs.declared.word.Word.TheVariants.{Empty, Key, Mark, Desc}
use Rattle.rh_recorder.specs.declared.recorder.Touched.{Touched}
use Rattle.rh_trace.specs.declared.traced.Traced.{Traced}

-- ---- parts

abbrev pub entry_text : (worker entry : ℕ) → (word : List ℕ) → List ℕ
entry_text worker entry word = codes "entry " ++ (decimal worker ++ (codes " " ++ (decimal entry ++ word)))

abbrev pub part_text : Part → List ℕ
part_text (Cell c) = codes "cell " ++ decimal c
part_text (Control worker) = codes "control " ++ decimal worker
part_text (Serial worker) = codes "serial " ++ decimal worker
part_text (Length worker) = codes "length " ++ decimal worker
part_text (EntryCell worker entry) = entry_text worker entry (codes " cell")
part_text (EntryOld worker entry) = entry_text worker entry (codes " old")
part_text (EntryNew worker entry) = entry_text worker entry (codes " new")
part_text (MarkSerial worker) = codes "mark " ++ (decimal worker ++ codes " serial")
part_text (MarkDesc worker) = codes "mark " ++ (decimal worker ++ codes " desc")
part_text (MarkEntry worker) = codes "mark " ++ (decimal worker ++ codes " entry")
part_text (Reason worker owner) = codes "reason " ++ (decimal worker ++ (codes " " ++ decimal owner))
part_text Counter = codes "counter"

-- ---- words

-- of a mark or a descriptor, which has a worker and a number
abbrev pub reference_text : (name : List ℕ) → (worker number : ℕ) → List ℕ
reference_text name worker number = name ++ (decimal worker ++ (codes " " ++ decimal number))

abbrev pub cell_text : Word → List ℕ
cell_text Empty = codes "empty"
cell_text (Key key) = codes "key " ++ decimal key
cell_text (Mark worker number) = reference_text (codes "mark ") worker number
cell_text (Desc worker number) = reference_text (codes "desc ") worker number

-- the word of a cell, or of an entry's old or new word; one that no such word has is told as a number
abbrev pub held_text : (word : ℕ) → Option Word → List ℕ
held_text word (Some held) = cell_text held
held_text word None = decimal word

-- the word that names a mark's descriptor; another one is told as a number
abbrev pub named_text : (word : ℕ) → Option Word → List ℕ
named_text word (Some (Desc worker number)) = reference_text (codes "desc ") worker number
named_text word (Some (Mark worker number)) = decimal word
named_text word (Some (Key key)) = decimal word
named_text word (Some Empty) = decimal word
named_text word None = decimal word

abbrev pub state_text : State → List ℕ
state_text Unused = codes " unused"
state_text Undecided = codes " undecided"
state_text Succeeded = codes " succeeded"
state_text Withdrawn = codes " withdrawn"
state_text (Failed decider) = codes " failed " ++ decimal decider

-- the word of a control; one that no control has is told as a number
abbrev pub control_text : (word : ℕ) → Option (ℕ × State) → List ℕ
control_text word (Some control) = decimal control.0 ++ state_text control.1
control_text word None = decimal word

-- what a word of this part says
-- 40 is "key 9" in a cell and "40" as a length; as a control 2 is "0 succeeded"
abbrev pub word_text : Part → (word : ℕ) → List ℕ
word_text (Cell c) word = held_text word (word_in word)
word_text (Control worker) word = control_text word (control_in word)
word_text (Serial worker) word = decimal word
word_text (Length worker) word = decimal word
word_text (EntryCell worker entry) word = decimal word
word_text (EntryOld worker entry) word = held_text word (word_in word)
word_text (EntryNew worker entry) word = held_text word (word_in word)
word_text (MarkSerial worker) word = decimal word
word_text (MarkDesc worker) word = named_text word (word_in word)
word_text (MarkEntry worker) word = decimal word
word_text (Reason worker owner) word = decimal word
word_text Counter word = decimal word

-- ---- steps

-- what the step left, where that is another word than it found
abbrev pub change_text : Touched → List ℕ
change_text touched =
    if touched.left == touched.found then [] else codes " now " ++ word_text touched.part touched.left

abbrev pub touched_text : Touched → List ℕ
touched_text touched =
    part_text touched.part ++ (codes " found " ++ (word_text touched.part touched.found ++ change_text touched))

abbrev pub step_text : Traced → List ℕ
step_text step =
    decimal step.number ++ (codes " " ++ (decimal step.worker ++ (codes " " ++ (kind_word step.kind ++ (codes " " ++ touched_text step.touched)))))

abbrev pub step_line : Traced → List ℕ
step_line step = step_text step ++ codes "\n"
