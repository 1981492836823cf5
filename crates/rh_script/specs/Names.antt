-- What a script's steps give: names to lists, and paths to files.
use Rattle.std.specs.Prelude.{◌≡◌, ℕ, Bool, ◌||◌, IsTrue, if◌then◌else◌, List, [], ◌∷◌, ◌++◌, Result, Ok, Err, is_ok}
use Rattle.std.specs.Str.{bytes_eq}
use Rattle.std.specs.List.{flat_map, list_any}
use Rattle.rh_script.specs.declared.fault.ScriptFaultKind.{ScriptFaultKind}
use Rattle.rh_script.specs.declared.fault.ScriptFaultKind.TheVariants.{Unknown, Twice}
use Rattle.rh_script.specs.Instruction.{Instruction, Use, Act, Save, Clear, Dump, Snapshot, Restore, Numbered}

-- the name that an instruction gives, if it gives one
abbrev pub given_by : Instruction → List (List ℕ)
given_by (Use name path) = name ∷ []
given_by (Save name) = name ∷ []
given_by _ = []

-- the path of the key file that an instruction reads, if it reads one
abbrev pub file_of : Instruction → List (List ℕ)
file_of (Use name path) = path ∷ []
file_of _ = []

-- the path that an instruction puts a snapshot under, if it makes one
abbrev pub snapshot_of : Instruction → List (List ℕ)
snapshot_of (Snapshot path) = path ∷ []
snapshot_of _ = []

-- the names that the steps give, in order
unfoldable pub names_in : List Numbered → List (List ℕ)
names_in steps = flat_map (λ step. given_by step.instruction) steps

-- the paths of the key files that the steps read, in order
unfoldable pub files_in : List Numbered → List (List ℕ)
files_in steps = flat_map (λ step. file_of step.instruction) steps

-- the paths that the steps put snapshots under, in order
unfoldable pub snapshots_in : List Numbered → List (List ℕ)
snapshots_in steps = flat_map (λ step. snapshot_of step.instruction) steps

unfoldable pub is_given : List ℕ → List (List ℕ) → Bool
is_given name given = list_any (λ other. bytes_eq other name) given

-- what may be given once was not given before
abbrev pub once : Bool → Result (Unit {0}) ScriptFaultKind
once given = if given then Err Twice else Ok tt

-- a name is given before it is used
abbrev pub known : Bool → Result (Unit {0}) ScriptFaultKind
known given = if given then Ok tt else Err Unknown

-- Whether an instruction may stand after these steps. A name is given once. No path is both read as keys and written
-- as a snapshot, and no snapshot is written twice.
-- `use a x` and then `use a y`: given twice. `add a` alone: unknown name. `use a x` and then `snapshot x`: given twice; and then
-- `restore x`: fine.
unfoldable pub admitted : List Numbered → Instruction → Result (Unit {0}) ScriptFaultKind
admitted before (Use name path) = once (is_given path (snapshots_in before) || is_given name (names_in before))
admitted before (Act action name) = known (is_given name (names_in before))
admitted before (Save name) = once (is_given name (names_in before))
admitted before Clear = Ok tt
admitted before Dump = Ok tt
admitted before (Snapshot path) = once (is_given path (files_in before) || is_given path (snapshots_in before))
admitted before (Restore path) = Ok tt

-- each step may stand after those before it
abbrev pub InOrder : List Numbered → Type 0
InOrder steps =
    (before after : List Numbered) (step : Numbered) → steps ≡ before ++ step ∷ after
    → IsTrue (is_ok (admitted before step.instruction))
