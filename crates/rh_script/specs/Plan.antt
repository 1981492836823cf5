-- The plan of a script: its steps, with their lists numbered.
use Rattle.std.specs.Prelude.{ℕ, List, [], ◌∷◌, ◌++◌, length, position, Option, Some, None, Result, Ok}
use Rattle.std.specs.Str.{bytes_eq}
use Rattle.rh_script.specs.Instruction.{Instruction, Use, Act, Save, Clear, Dump, Snapshot, Restore, Numbered}
use Rattle.rh_lines.specs.Grammar.{◌>>=◌}
use Rattle.rh_script.specs.declared.fault.ScriptFaultKind.{ScriptFaultKind}
use Rattle.rh_script.specs.Names.{admitted, given_by, is_given, names_in, once}

-- an instruction with its line and the number of its list
pub record Planned : Type 0 where
  pub line : ℕ
  pub instruction : Instruction
  pub list : Option ℕ

-- the first place of a name among those that are given
unfoldable pub position_of : List ℕ → List (List ℕ) → Option ℕ
position_of name given = position (λ other. bytes_eq other name) given

-- the number of an instruction's list, after these names: a new name has the next number
unfoldable pub number_after : List (List ℕ) → Instruction → Option ℕ
number_after given (Use name path) = Some (length given)
number_after given (Act action name) = position_of name given
number_after given (Save name) = Some (length given)
number_after given Clear = None
number_after given Dump = None
number_after given (Snapshot path) = None
number_after given (Restore path) = None

-- the next number, for a name that was not given before
abbrev pub next_place : (name : List ℕ) → (given : List (List ℕ)) → Result ℕ ScriptFaultKind
next_place name given = once (is_given name given) >>= (λ _. Ok (length given))

-- the number of an instruction's list after these steps, if it may stand there
abbrev pub place_after : List Numbered → Instruction → Result (Option ℕ) ScriptFaultKind
place_after before said = admitted before said >>= (λ _. Ok (number_after (names_in before) said))

-- the steps with their numbers, after these names
unfoldable pub planned_after : List (List ℕ) → List Numbered → List Planned
planned_after given [] = []
planned_after given (step ∷ steps) =
    record { line = step.line; instruction = step.instruction; list = number_after given step.instruction }
    ∷ planned_after (given ++ given_by step.instruction) steps

abbrev pub plan_of : List Numbered → List Planned
plan_of steps = planned_after [] steps
