-- How the run of a script ends.
use Rattle.std.specs.Prelude.{◌≡◌, ℕ, ◌⊎◌, List, [], ◌∷◌, ◌++◌, length, Option, Some, None, Result, Ok, Err, OnOk, IfErr}
use Rattle.std.specs.FinSet as set
use Rattle.std.specs.Io.KnownBytes.{Appends}
use Rattle.rh_bytes.specs.Counting.{AppendsFront, Rose}
use Rattle.rh_script.specs.Instruction.{Instruction, Numbered, Snapshot}
use Rattle.rh_shelf.specs.Shelf.{Files, ShelfState}
use Rattle.rh_report.specs.Account.{Account, Says}
use Rattle.rh_operations.specs.declared.cause.Cause.{Cause}
use Rattle.rh_operations.specs.declared.cause.Cause.TheVariants.{Missing, Memory, Put, Write}
use Rattle.rh_operations.specs.Leaves.{IsRead, KeepsRunner}
use Rattle.rh_operations.specs.Outside.{Outside}
use Rattle.rh_operations.specs.Refusals.{RefusedBy}
use Rattle.rh_script_run.specs.declared.fault.RunFault.{RunFault}
use Rattle.rh_script_run.specs.declared.report.Report.{Report}
use Rattle.rh_script_run.specs.Files.{FileMap, HasFiles, HasOthers}
use Rattle.rh_script_run.specs.Meaning.{ScriptState, CommandOutcome, start, meaning, outcome_of}
use Rattle.rh_script_run.specs.Outside.{IsOutside}
use Rattle.rh_script_run.specs.Environment.{Environment, outside_in}

-- the text says these accounts, one after the other
abbrev pub SaysAll : List Account → List ℕ → Type 0
SaysAll [] text = text ≡ []
SaysAll (account ∷ accounts) text = (first : List ℕ) × (rest : List ℕ) × Says account first × SaysAll accounts rest × (text ≡ first ++ rest)

-- What any command leaves of a shelf. It failed where it did not take a file, and a read failed where that is the cause.
pub record LeavesShelf {X : Type 0} (old new : ShelfState) (r : Result X Cause) : Type 0 where
  pub still_unknown : old.files ≡ None → new.files ≡ None
  pub fine : OnOk r (new.failures ≡ old.failures)
  pub missing : IfErr r (λ cause. cause ≡ Missing → old.files ≡ None → Rose old.failures new.failures)
  pub put : IfErr r (λ cause. cause ≡ Put → Rose old.failures new.failures)
  pub read : IfErr r (λ cause. IsRead cause → Rose old.failed_reads new.failed_reads)
  pub others : IfErr r (λ cause. (IsRead cause → ⊥) → new.failed_reads ≡ old.failed_reads)
  pub none_read : OnOk r (new.failed_reads ≡ old.failed_reads)

-- the cause of a run that ended early
abbrev pub cause_of : {X : Type 0} → Result X RunFault → Result X Cause
cause_of (Ok x) = Ok x
cause_of (Err fault) = Err fault.cause

-- What a command leaves of a writer: no write failed where it was carried out, and one did where that is the cause.
pub record KeepsWriter {X : Type 0} (failures failures' : ℕ) (r : Result X Cause) : Type 0 where
  pub fine : OnOk r (failures' ≡ failures)
  pub write : IfErr r (λ cause. cause ≡ Write → Rose failures failures')

-- What any command leaves of a shelf and of a runner.
pub record LeavesOutside {X : Type 0} (old new : Outside) (r : Result X Cause) : Type 0 where
  pub shelf : LeavesShelf old.shelf new.shelf r
  pub runner : KeepsRunner old.refused_starts new.refused_starts r

-- And of a writer too, once it was told.
pub record LeavesAll {X : Type 0} (old new : Outside) (failures failures' : ℕ) (r : Result X Cause) : Type 0 where
  pub outside : LeavesOutside old new r
  pub open outside use *
  pub writer : KeepsWriter failures failures' r

-- a text that says this account was appended
abbrev pub TellsAccount : Account → Option (List ℕ) → Option (List ℕ) → Type 0
TellsAccount account old new = (text : List ℕ) × Says account text × Appends old new text

-- a front of a text that says this account was appended
abbrev pub TellsFront : Account → Option (List ℕ) → Option (List ℕ) → Type 0
TellsFront account old new = (text : List ℕ) × Says account text × AppendsFront old new text

-- a command that is carried out: what is said, what that means, and what was outside before and after it
pub record CommandRun : Type 0 where
  pub said : Instruction
  pub outcome : CommandOutcome
  pub before : Environment
  pub after : Environment

-- a command of a script, in the world that it finds
abbrev pub step_in : ScriptState → Instruction → (before after : Environment) → CommandRun
step_in world said before after = record { said = said; outcome = outcome_of world said; before = before; after = after }

-- the cause comes from outside, by what failed meanwhile
abbrev pub IsMet : CommandRun → Cause → Type 0
IsMet step cause = IsOutside step.said (outside_in step.before) (outside_in step.after) cause

-- A command was refused and told nothing; or its account could not be written whole.
abbrev pub EndsBy : CommandRun → Cause → Type 0
EndsBy step cause =
    (Appends step.before.text step.after.text [] × RefusedBy step.outcome (IsMet step) cause)
    ⊎ ((cause ≡ Write) × (done : ScriptState × Account) × (step.outcome ≡ Ok done) × TellsFront done.1 step.before.text step.after.text)

-- What a command that was refused leaves of the files: those that it found, but for the path of a snapshot.
-- (That path is in doubt also where memory ran out: the shelf may have begun to write.)
abbrev pub LeavesOthers : Instruction → FileMap → (now : Option Files) → Type 0
LeavesOthers (Snapshot path) files now = HasOthers path files now
LeavesOthers _ files now = HasFiles files now

-- And where its account could not be written, those that it made.
abbrev pub LeavesFiles : CommandRun → (found : FileMap) → Cause → Type 0
LeavesFiles step found Write = (done : ScriptState × Account) × (step.outcome ≡ Ok done) × HasFiles done.0.files step.after.files
LeavesFiles step found _ = LeavesOthers step.said found step.after.files

-- All steps were carried out: the text is what they have to report, the shelf has the files that they made, the report
-- counts them and tells the table, and nothing failed meanwhile.
pub record AllDone (files : Files) (steps : List Numbered) (old new : Environment) (report : Report) : Type 0 where
  pub world : ScriptState
  pub accounts : List Account
  pub text : List ℕ
  pub means : meaning (start files) steps ≡ Ok (world, accounts)
  pub says : SaysAll accounts text
  pub written : Appends old.text new.text text
  pub files_now : HasFiles world.files new.files
  pub told : report ≡ record { commands = length steps; held = set.len world.held; bits = world.bits }
  pub fine : new.failures ≡ old.failures
  pub read : new.failed_reads ≡ old.failed_reads
  pub started : new.refused_starts ≡ old.refused_starts

-- The steps before one were carried out, and at that one the run ended with its line: by the cause that the meaning
-- has there, or by one that comes from outside to that command.
pub record Stopped (files : Files) (steps : List Numbered) (old new : Environment) (fault : RunFault) : Type 0 where
  pub before : List Numbered
  pub step : Numbered
  pub after : List Numbered
  pub parts : steps ≡ before ++ step ∷ after
  pub line : fault.line ≡ step.line
  pub world : ScriptState
  pub accounts : List Account
  pub text : List ℕ
  pub means : meaning (start files) before ≡ Ok (world, accounts)
  pub says : SaysAll accounts text
  -- so far nothing failed
  pub middle : Environment
  pub written : Appends old.text middle.text text
  pub fine : middle.failures ≡ old.failures
  pub read : middle.failed_reads ≡ old.failed_reads
  pub started : middle.refused_starts ≡ old.refused_starts
  pub ends : EndsBy (step_in world step.instruction middle new) fault.cause
  pub files_now : LeavesFiles (step_in world step.instruction middle new) world.files fault.cause

-- memory ran out before the first command
abbrev pub NotBegun : (files : Files) → (old new : Environment) → RunFault → Type 0
NotBegun files old new fault = (fault ≡ record { line = 0; cause = Memory }) × Appends old.text new.text [] × (new.files ≡ Some files)

abbrev pub Ends : (files : Files) → List Numbered → (old new : Environment) → Result Report RunFault → Type 0
Ends files steps old new (Ok report) = AllDone files steps old new report
Ends files steps old new (Err fault) = NotBegun files old new fault ⊎ Stopped files steps old new fault
