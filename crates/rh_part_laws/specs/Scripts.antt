-- The state of a script as sets and lists.
use Rattle.std.specs.Prelude.{◌≡◌, ℕ, List, map, Ok}
use Rattle.rh_edit.specs.Held.{Held}
use Rattle.rh_script.specs.Instruction.{Instruction, Numbered}
use Rattle.rh_script_run.specs.Meaning.{ScriptState, keys_at_path, table_at}
use Rattle.rh_part_laws.specs.Commands.{PartState}

-- A script has these keys and these lists. What stands at a path is the list there, if it is a key file, and has the keys
-- there, if it is a snapshot.
pub record Has (w : ScriptState) (s : PartState) : Type 0 where
  pub held : w.held ≡ s.held
  pub lists : w.lists ≡ s.lists
  pub files : (path keys : List ℕ) → keys_at_path (w.files path) ≡ Ok keys → keys ≡ s.files path
  pub snapshots : (path : List ℕ) (table : Held) → table_at (w.files path) ≡ Ok table → table.keys ≡ s.snapshots path

-- the commands of steps, without their lines
abbrev pub commands_of : List Numbered → List Instruction
commands_of steps = map (λ step. step.instruction) steps
