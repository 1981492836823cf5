-- What a script says, with its texts as lists of bytes.
use Rattle.std.specs.Prelude.{ℕ, List}
use Rattle.rh_script.specs.declared.action.Action.{Action}

-- a command with its words
pub data Instruction : Type 0 where
  Use : (name path : List ℕ) → Instruction
  -- the action on the keys of the list of this name
  Act : Action → (name : List ℕ) → Instruction
  Save : (name : List ℕ) → Instruction
  Clear : Instruction
  Dump : Instruction
  Snapshot : (path : List ℕ) → Instruction
  Restore : (path : List ℕ) → Instruction

-- an instruction, and the line on which it stands; the first is line 1
pub record Numbered : Type 0 where
  pub line : ℕ
  pub instruction : Instruction
