-- What the code has of a script's world, and what a step makes of it.
use Rattle.std.specs.Prelude.{◌≡◌, ℕ, ◌+◌, ◌<◌, false, List, [], ◌∷◌, ◌++◌, length, map, Option, Some, None, Result, Ok, MatchResult}
use Rattle.rh_edit.specs.Held.{Held}
use Rattle.rh_shelf.specs.Shelf.{Files}
use Rattle.rh_script.specs.Instruction.{Instruction, Snapshot}
use Rattle.rh_script.specs.Names.{file_of, given_by, is_given}
use Rattle.rh_script.specs.Plan.{number_after}
use Rattle.rh_script.specs.Steps.{instruction_as}
use Rattle.rh_script.specs.declared.script.Command.{Command}
use Rattle.rh_script.specs.declared.script.Command.TheVariants as commands
use Rattle.rh_script.specs.declared.script.Step.{Step}
use Rattle.rh_report.specs.Account.{Account}
use Rattle.rh_operations.specs.declared.cause.Cause.{Cause}
use Rattle.rh_operations.specs.declared.key_lists.KeyList.{KeyList}
use Rattle.rh_operations.specs.KeyLists.{Stands, paths_of}
use Rattle.rh_operations.specs.Outside.{Outside}
use Rattle.rh_operations.specs.Refusals.{RefusedBy}
use Rattle.rh_script_run.specs.declared.told.Told.{Told}
use Rattle.rh_script_run.specs.Ends.{EndsBy, LeavesFiles, LeavesOthers, CommandRun, TellsAccount}
use Rattle.rh_script_run.specs.Files.{FileMap, HasFiles}
use Rattle.rh_script_run.specs.Meaning.{ScriptState, CommandOutcome, outcome_of}
use Rattle.rh_script_run.specs.Outside.{IsOutside}
use Rattle.rh_script_run.specs.Told.{told_as}

-- the names of lists, each with its keys
abbrev pub Named : Type 0
Named = List (List ℕ × List ℕ)

-- the world of a set, some named lists and the files
abbrev pub world_of : Held → Named → FileMap → ScriptState
world_of set lists files = record { held = set.keys; bits = set.bits; lists = lists; files = files }

-- each list has its keys
abbrev pub ListsStand : Option Files → List KeyList → Named → Type 0
ListsStand files [] [] = Unit {0}
ListsStand files (list ∷ lists) (named ∷ others) = Stands files list named.1 × ListsStand files lists others
ListsStand files _ _ = ⊥

abbrev pub names_of : Named → List (List ℕ)
names_of lists = map (λ named. named.0) lists

-- A command made this world and has this to report; or it was refused.
abbrev pub MakesOrRefuses : CommandOutcome → (outside : Cause → Type 0) → (made : ScriptState) → Held → Result Told Cause → Type 0
MakesOrRefuses outcome outside made set r = MatchResult r (λ told. outcome ≡ Ok (made, told_as set told)) (RefusedBy outcome outside)

-- A command that puts no file made this set and these lists of the world that it found, and has this to report; or it
-- was refused.
abbrev pub MakesLists : CommandOutcome → (outside : Cause → Type 0) → (found : FileMap) → (now : Option Files) → Held → List KeyList → Result Told Cause → Type 0
MakesLists outcome outside found now set lists r =
    MatchResult r (λ told. (named : Named) × (outcome ≡ Ok (world_of set named found, told_as set told)) × ListsStand now lists named) (RefusedBy outcome outside)

-- A command made this set, these lists and the files that the shelf has now, and has this to report.
pub record HasMade (outcome : CommandOutcome) (now : Option Files) (set : Held) (lists : List KeyList) (account : Account) : Type 0 where
  pub named : Named
  pub files : FileMap
  pub is : outcome ≡ Ok (world_of set named files, account)
  pub stand : ListsStand now lists named
  pub has : HasFiles files now

-- Any command does so; or it was refused, and this is what it left of the files.
abbrev pub MakesState : (said : Instruction) → CommandOutcome → (outside : Cause → Type 0) → (found : FileMap) → (now : Option Files) → Held → List KeyList → Result Told Cause → Type 0
MakesState said outcome outside found now set lists r =
    MatchResult r (λ told. HasMade outcome now set lists (told_as set told)) (λ cause. RefusedBy outcome outside cause × LeavesOthers said found now)

-- A step made this, and told its account.
pub record StepDone (step : CommandRun) (set : Held) (lists : List KeyList) : Type 0 where
  pub account : Account
  pub made : HasMade step.outcome step.after.files set lists account
  pub told : TellsAccount account step.before.text step.after.text

-- Any step ends so; or it was refused, or could not be told, and this is what it left of the files.
abbrev pub StateEnds : CommandRun → (found : FileMap) → Held → List KeyList → Result (Unit {0}) Cause → Type 0
StateEnds step found set lists r =
    MatchResult r (λ _. StepDone step set lists) (λ cause. EndsBy step cause × LeavesFiles step found cause)

-- the list that a command acts on, by its number, is among so many
abbrev pub ActsOn : Command → (list : Option ℕ) → ℕ → Type 0
ActsOn (commands.Act action name) None many = ⊥
ActsOn (commands.Act action name) (Some list) many = list < many
ActsOn _ list many = Unit {0}

abbrev pub HasList : Step → ℕ → Type 0
HasList step many = ActsOn step.command step.list many

-- A step comes where these named lists and these files were made, as the code has them now. It has the number of its list,
-- and puts no snapshot under a path at which a list stands.
pub record ComesAfter (step : Step) (named : Named) (files : FileMap) (lists : List KeyList) (now : Option Files) : Type 0 where
  pub has : HasFiles files now
  pub stand : ListsStand now lists named
  pub number : number_after (names_of named) (instruction_as step.command) ≡ step.list
  pub apart : (path : List ℕ) → instruction_as step.command ≡ Snapshot path → is_given path (paths_of lists) ≡ false

-- An instruction gives its list, and its path if that is a file's.
pub record ListsGrow (said : Instruction) (old new : List KeyList) : Type 0 where
  pub more : length new ≡ length old + length (given_by said)
  pub paths : paths_of new ≡ paths_of old ++ file_of said

-- A command makes of a world what it means, or is refused by what that means or by a cause from outside.
abbrev pub Performs : Instruction → ScriptState → (old new : Outside) → Held → List KeyList → Result Told Cause → Type 0
Performs said w old new set lists r = MakesState said (outcome_of w said) (IsOutside said old new) w.files new.shelf.files set lists r
