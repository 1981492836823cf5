-- What the words of a table say: the cells and the controls of the world, by the one numbering of words.
use Rattle.std.specs.Prelude.{ℕ, ◌≡◌, ◌/◌, ◌%◌, ◌^◌, Option, Some, None}
use Rattle.rh_tagword.specs.Word.{tag_of, word_number, word_in}
use Rattle.rh_tagword.specs.Control.{control_number, state_in}
use Rattle.rh_tagword.specs.declared.limits.TheConstants.{PLAIN, STATE_BITS}
use Rattle.rh_tagword.specs.declared.word.Word.{Word}
use Rattle.rh_tagword.specs.declared.word.Word.TheVariants.{Empty, Key, Mark, Desc}
use Rattle.rh_tagword.specs.declared.control.State.{State}
use Rattle.rh_tagword.specs.declared.control.State.TheVariants.{Unused, Undecided, Succeeded, Withdrawn, Failed}
use Rattle.rh_world.specs.World.{Ref, Cell, Control}
use Rattle.rh_world.specs.World.Cell.{plain, mark, desc}
use Rattle.rh_world.specs.World.Control.{unused, undecided, succeeded, withdrawn, failed}
use Rattle.rh_words.specs.declared.reference.Ref.{Ref as Reference}

-- the words that refer to a mark and to a descriptor
abbrev pub mark_number : Ref → ℕ
mark_number x = word_number (Mark x.worker x.number)

abbrev pub desc_number : Ref → ℕ
desc_number d = word_number (Desc d.worker d.number)

-- a plain word: it says what a cell holds
abbrev pub IsPlain : ℕ → Type 0
IsPlain n = tag_of n ≡ PLAIN

-- what a cell with this word holds: a plain word stands for itself
abbrev pub cell_said : Option Word → (n : ℕ) → Cell
cell_said None n = plain n
cell_said (Some Empty) n = plain n
cell_said (Some (Key k)) n = plain n
cell_said (Some (Mark worker number)) n = mark (record { worker = worker; number = number })
cell_said (Some (Desc worker number)) n = desc (record { worker = worker; number = number })

abbrev pub cell_in : ℕ → Cell
cell_in n = cell_said (word_in n) n

-- a state of the table as a control of the world. Its word does not tell the entry at which a descriptor failed: 0 stands
-- there.
abbrev pub control_of : State → Control
control_of Unused = unused
control_of Undecided = undecided
control_of Succeeded = succeeded
control_of Withdrawn = withdrawn
control_of (Failed decider) = failed 0 decider

-- and the other way
abbrev pub state_of : Control → State
state_of unused = Unused
state_of undecided = Undecided
state_of succeeded = Succeeded
state_of withdrawn = Withdrawn
state_of (failed e by) = Failed by

-- a control of the world as its word tells it
abbrev pub without_entry : Control → Control
without_entry unused = unused
without_entry undecided = undecided
without_entry succeeded = succeeded
without_entry withdrawn = withdrawn
without_entry (failed e by) = failed 0 by

-- with this entry, where its word is to tell that it failed
abbrev pub with_entry : ℕ → Control → Control
with_entry e unused = unused
with_entry e undecided = undecided
with_entry e succeeded = succeeded
with_entry e withdrawn = withdrawn
with_entry e (failed f by) = failed e by

-- the control word of the descriptor of this number
abbrev pub control_word_of : (number : ℕ) → Control → ℕ
control_word_of number k = control_number number (state_of k)

-- the serial number that a control word has, and the state; another number is never written
abbrev pub serial_in : ℕ → ℕ
serial_in n = n / 2 ^ STATE_BITS

abbrev pub control_said : Option State → Control
control_said None = withdrawn
control_said (Some s) = control_of s

abbrev pub read_control : ℕ → Control
read_control n = control_said (state_in (n % 2 ^ STATE_BITS))

-- a reference as the world has it, and the word that it says
abbrev pub ref_of : Reference → Ref
ref_of r = record { worker = r.worker; number = r.number }

abbrev pub ref_said : Option Word → Option Ref
ref_said None = None
ref_said (Some Empty) = None
ref_said (Some (Key k)) = None
ref_said (Some (Mark worker number)) = None
ref_said (Some (Desc worker number)) = Some (record { worker = worker; number = number })

-- the descriptor that a word refers to
abbrev pub desc_in : ℕ → Option Ref
desc_in n = ref_said (word_in n)
