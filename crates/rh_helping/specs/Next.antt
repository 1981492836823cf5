-- The next step of a worker that settles a mark, goes about a descriptor or looks at a cell, as a value; and what a step
-- leads to.
use Rattle.std.specs.Prelude.{ℕ, Option, Bool}
use Rattle.rh_tagword.specs.declared.control.State.{State}
use Rattle.rh_words.specs.declared.reference.Piece.{Piece}
use Rattle.rh_words.specs.declared.reference.Ref.{Ref as Reference}
use Rattle.rh_helping.specs.declared.goal.Owed.{Owed}
use Rattle.rh_helping.specs.declared.goal.Task.{Task}
use Rattle.rh_helping.specs.declared.machine.Ended.{Ended}

-- ---- with a mark that was met in a cell

pub data Settles : Type 0 where
  -- Read of its descriptor
  Desc : Reference → (cell : ℕ) → Settles
  -- Read of its entry. Its descriptor was named by this word.
  Entry : Reference → (cell named : ℕ) → Settles
  -- Read of the number of the mark that the row is of by now: what was read in it is so of this mark only where it is
  -- still that one
  Serial : Reference → (cell named entry : ℕ) → Settles
  -- Read of the control of its descriptor
  Control : Reference → Piece → Settles
  -- Read of the old value of its entry
  Old : Reference → Piece → Settles
  -- Read of the serial number in the row of its descriptor, after the old value
  OldSerial : Reference → Piece → (old : ℕ) → Settles
  -- Settle to the old value, or to the descriptor where none is given
  Settle : Reference → Piece → (old : Option ℕ) → Settles

-- ---- with a descriptor, its own or another's

-- the entry of a task, with its cell, and the words that it is to find and to put there
pub record Goal : Type 0 where
  pub task : Task
  pub cell : ℕ
  pub old : ℕ
  pub new : ℕ

-- an own mark that was placed for a goal
pub record PlacedMark : Type 0 where
  pub goal : Goal
  pub mark : Reference

pub data Work : Type 0 where
  -- Read of its control
  Control : Reference → Work
  -- Read of the number of its entries
  Length : Reference → State → Work
  -- Read of the serial number in its row: what was read there is so of it only where the row is still of it
  LengthSerial : Reference → State → (size : ℕ) → Work
  -- Read of the next entry's cell, of its old and of its new value
  EntryCell : Task → Work
  EntryOld : Task → (cell : ℕ) → Work
  EntryNew : Task → (cell old : ℕ) → Work
  -- Read of the serial number in its row, after the words of the entry
  EntrySerial : Goal → Work
  -- Write of the next own mark's number into the mark row, of its descriptor, and of its entry
  MarkSerial : Goal → Work
  MarkDesc : Goal → Work
  MarkEntry : Goal → Work
  -- Place of the mark
  Place : Goal → Work
  -- Settling of another mark that stands in the goal's cell
  Settle : Settles → Goal → Work
  -- Read of the descriptor's control once the mark is placed
  MarkControl : PlacedMark → Work
  -- Settle of the mark to its descriptor
  Promote : PlacedMark → Work
  -- Settle of the mark to the old value, as the descriptor is decided so, or it is stale
  Demote : PlacedMark → Option State → Work
  -- Read of the descriptor's control once it stands in the cell, if it came to stand there
  Recheck : Goal → (promoted : Bool) → Work
  -- Write of the next entry, which did not hold its old value, as the own reason to the owner
  WriteReason : Task → Work
  -- Decide that it failed there
  Fail : Task → Work
  -- Decide that it succeeded
  Succeed : Task → Work
  -- Decide that it, the own open one, is withdrawn, as no mark is left
  Withdraw : Reference → Work
  -- Read of the decider's reason: at which entry the own open descriptor failed
  ReadReason : Task → (decider : ℕ) → Work
  -- Release of an entry
  Release : Goal → Work
  -- Release of the one entry whose cell is owed, to its old value, as the descriptor is stale
  GiveBack : Owed → Work

pub data StageOutcome : Type 0 where
  -- the next step
  On : Work → StageOutcome
  -- The descriptor is released, or left as it is stale. No own descriptor is open, and nothing is owed.
  Over : StageOutcome
  -- the own descriptor that was open ended so, and is released
  Closed : Ended → StageOutcome
  -- no mark is left, and no own descriptor is open
  Spent : StageOutcome

-- ---- with a cell that it looks at

pub data Looking : Type 0 where
  -- Read of the cell
  Read : Looking
  -- settling of a mark that stands there
  Settle : Settles → Looking
  -- work on a descriptor that stands there, and on those that it leads to
  Help : Work → Looking

pub data Looked : Type 0 where
  -- the next step
  On : Looking → Looked
  -- the cell holds this plain word
  Sees : (word : ℕ) → Looked
  -- no mark is left
  Spent : Looked
