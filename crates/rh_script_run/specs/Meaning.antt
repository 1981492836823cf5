-- What a script means: what its commands make, one after the other, of a set, the bits of its
-- table, the lists that have a name and the files, and what each has to report. It ends at the first command that is
-- refused.
use Rattle.std.specs.Prelude.{ℕ, List, [], ◌∷◌, ◌++◌, length, Option, Some, None, Result, Ok, Err, unwrap_or}
use Rattle.std.specs.FinSet as set
use Rattle.std.specs.Str.{bytes_eq}
use Rattle.std.specs.Map.{lookup}
use Rattle.rh_layout.specs.Layout.{Keys}
use Rattle.rh_layout.specs.declared.limits.TheConstants.{MIN_BITS}
use Rattle.rh_edit.specs.Held.{Held}
use Rattle.rh_edit.specs.Rising.{rising_keys}
use Rattle.rh_key_files.specs.declared.fault.KeyFault.TheVariants.{NotKeys}
use Rattle.rh_key_files.specs.Source.{keys_of_file}
use Rattle.rh_snapshot.specs.Reading.{file_table}
use Rattle.rh_script.specs.declared.action.Action.{Action}
use Rattle.rh_script.specs.Instruction.{Instruction, Numbered}
use Rattle.rh_script.specs.Instruction as instructions
use Rattle.rh_shelf.specs.Shelf.{Files}
use Rattle.rh_report.specs.Account.{Account, Used, Saved, Cleared, Dumped, Restored}
use Rattle.rh_report.specs.Account as accounts
use Rattle.rh_operations.specs.declared.cause.Cause.{Cause}
use Rattle.rh_operations.specs.declared.cause.Cause.TheVariants as causes
use Rattle.rh_operations.specs.declared.cause.Cause.TheVariants.{Missing}
use Rattle.rh_operations.specs.Found.{keys_or_cause, table_or_cause}
use Rattle.rh_bytes.specs.Input.{◌>>=◌}
use Rattle.rh_operations.specs.Actions.{means}
use Rattle.rh_script_run.specs.declared.fault.RunFault.{RunFault}
use Rattle.rh_script_run.specs.Told.{account_of}
use Rattle.rh_script_run.specs.Files.{File, FileMap, Bytes, Sealed, given_files, with_snapshot}

-- what there is between two commands: the keys that are held, the bits of their table, the lists by their names in the
-- order in which they were given, and the files
pub record ScriptState : Type 0 where
  pub held : Keys
  pub bits : ℕ
  pub lists : List (List ℕ × List ℕ)
  pub files : FileMap

-- before the first command
abbrev pub start : Files → ScriptState
start files = record { held = set.empty; bits = MIN_BITS; lists = []; files = given_files files }

-- the list of this name; a script names no other
abbrev pub list_of : (name : List ℕ) → List (List ℕ × List ℕ) → List ℕ
list_of name lists = unwrap_or (lookup (λ other. bytes_eq other name) lists) []

-- ---- what a command makes, or why it is refused

abbrev pub CommandOutcome : Type 0
CommandOutcome = Result (ScriptState × Account) Cause

-- the keys of the file at a path, or why it has none; a snapshot is no key file
abbrev pub keys_at_path : Option File → Result (List ℕ) Cause
keys_at_path None = Err Missing
keys_at_path (Some (Bytes bytes)) = keys_or_cause (keys_of_file bytes)
keys_at_path (Some (Sealed table)) = Err (causes.Keys NotKeys)

-- the table of the snapshot at a path, or why there is none
abbrev pub table_at : Option File → Result Held Cause
table_at None = Err Missing
table_at (Some (Bytes bytes)) = table_or_cause (file_table bytes)
table_at (Some (Sealed table)) = Ok table

-- the list has a name from now on
abbrev pub with_list : ScriptState → (name keys : List ℕ) → ScriptState
with_list w name keys = record w { lists = w.lists ++ (name, keys) ∷ [] }

abbrev pub uses : ScriptState → (name path : List ℕ) → CommandOutcome
uses w name path = keys_at_path (w.files path) >>= (λ keys. Ok (with_list w name keys, Used name (length keys)))

abbrev pub held_table : ScriptState → Held
held_table w = record { bits = w.bits; keys = w.held }

-- the table is another one
abbrev pub with_table : ScriptState → Held → ScriptState
with_table w table = record w { held = table.keys; bits = table.bits }

-- the action on the table, by the keys of the list of this name
abbrev pub acts : Action → ScriptState → (name keys : List ℕ) → CommandOutcome
acts action w name keys =
    means action (held_table w) keys
    >>= (λ made. Ok (with_table w made.0, account_of name (length keys) made.0 made.1))

-- the keys that are held become a list, in rising order
abbrev pub saves : ScriptState → (name : List ℕ) → CommandOutcome
saves w name = Ok (with_list w name (rising_keys w.held), Saved name (set.len w.held))

abbrev pub clears : ScriptState → CommandOutcome
clears w = Ok (record w { held = set.empty; bits = MIN_BITS }, Cleared)

abbrev pub dumps : ScriptState → CommandOutcome
dumps w = Ok (w, Dumped w.held w.bits)

-- the path has a snapshot of the table from now on
abbrev pub snapshots : ScriptState → (path : List ℕ) → CommandOutcome
snapshots w path = Ok (record w { files = with_snapshot w.files path (held_table w) }, accounts.Sealed path (set.len w.held) w.bits)

-- the table is that of the snapshot
abbrev pub restores : ScriptState → (path : List ℕ) → CommandOutcome
restores w path =
    table_at (w.files path)
    >>= (λ table. Ok (with_table w table, Restored path (set.len table.keys) table.bits))

-- With 1 and 2 held in 4 bits `keep b` of the list 1, 2 leaves both, in 3 bits. `snapshot s`, `clear` and `restore s` leave what
-- was held before, in the same bits.
unfoldable pub outcome_of : ScriptState → Instruction → CommandOutcome
outcome_of w (instructions.Use name path) = uses w name path
outcome_of w (instructions.Act action name) = acts action w name (list_of name w.lists)
outcome_of w (instructions.Save name) = saves w name
outcome_of w instructions.Clear = clears w
outcome_of w instructions.Dump = dumps w
outcome_of w (instructions.Snapshot path) = snapshots w path
outcome_of w (instructions.Restore path) = restores w path

-- ---- the steps of a script

abbrev pub outcome_at : ℕ → CommandOutcome → Result (ScriptState × Account) RunFault
outcome_at line (Ok done) = Ok done
outcome_at line (Err cause) = Err (record { line = line; cause = cause })

-- what the steps make, and their accounts; or the first refusal
unfoldable pub meaning : ScriptState → List Numbered → Result (ScriptState × List Account) RunFault
meaning w [] = Ok (w, [])
meaning w (step ∷ steps) =
    outcome_at step.line (outcome_of w step.instruction) >>= (λ done. meaning done.0 steps >>= (λ rest. Ok (rest.0, done.1 ∷ rest.1)))
