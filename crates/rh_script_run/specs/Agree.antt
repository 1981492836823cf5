-- What two runs of one script have in common.
use Rattle.std.specs.Prelude.{◌≡◌, ℕ, ◌⊎◌, List, [], ◌∷◌, length, All, Option, Some, Result, Ok, Err}
use Rattle.std.specs.FinSet as set
use Rattle.std.specs.Io.KnownBytes.{Appends}
use Rattle.rh_bytes.specs.Counting.{AppendsFront, Rose}
use Rattle.rh_key_files.specs.declared.fault.KeyFault.TheVariants as key_faults
use Rattle.rh_snapshot.specs.declared.fault.SnapFault.TheVariants as snap_faults
use Rattle.rh_script.specs.Instruction.{Instruction, Numbered, Use, Restore}
use Rattle.rh_shelf.specs.Shelf.{Files, Lacks}
use Rattle.rh_report.specs.Account.{Account}
use Rattle.rh_operations.specs.declared.cause.Cause.{Cause}
use Rattle.rh_operations.specs.declared.cause.Cause.TheVariants.{Missing, Keys, Snap, TooLarge}
use Rattle.rh_script_run.specs.declared.fault.RunFault.{RunFault}
use Rattle.rh_script_run.specs.declared.report.Report.{Report}
use Rattle.rh_script_run.specs.Environment.{Environment}
use Rattle.rh_script_run.specs.Meaning.{ScriptState}

-- the file that an instruction reads is known not to be there
abbrev pub ReadsNone : (now : Option Files) → Instruction → Type 0
ReadsNone now (Use name path) = Lacks now path
ReadsNone now (Restore path) = Lacks now path
ReadsNone now _ = ⊥

-- so it is of what stands on this line
abbrev pub ReadsNoneAt : (now : Option Files) → (line : ℕ) → List Numbered → Type 0
ReadsNoneAt now line steps = All (λ step. step.line ≡ line → ReadsNone now step.instruction) steps

-- A cause that can only have been found in the script and the files. `failed` says that the shelf failed, `read` that a read of
-- one of its files failed, and `lacks` that it is known not to have the file.
-- A shelf that failed answers `Missing` as one does that has no such file, so names of causes alone do not tell. Nor does its
-- count of failures where it is the greatest: then the files do.
abbrev pub IsFound : (failed read lacks : Type 0) → Cause → Type 0
IsFound failed read lacks Missing = (failed → ⊥) ⊎ lacks
IsFound failed read lacks (Keys fault) = fault ≡ key_faults.Read → read → ⊥
IsFound failed read lacks (Snap fault) = fault ≡ snap_faults.Read → read → ⊥
IsFound failed read lacks TooLarge = Unit {0}
IsFound failed read lacks _ = ⊥

-- Nothing from outside ended the run of these steps: all of them were carried out, or what was found refused one.
abbrev pub EndsByItself : List Numbered → (old new : Environment) → Result Report RunFault → Type 0
EndsByItself steps old new (Ok report) = Unit {0}
EndsByItself steps old new (Err fault) =
    IsFound (Rose old.failures new.failures) (Rose old.failed_reads new.failed_reads) (ReadsNoneAt new.files fault.line steps) fault.cause

-- one text was appended to both, where they are known
-- (what the two were before may differ)
abbrev pub AppendSame : (old new old' new' : Option (List ℕ)) → Type 0
AppendSame old new old' new' = (text : List ℕ) × Appends old new text × Appends old' new' text

-- a text was appended to the one, and a front of it to the other
abbrev pub AppendFrontOf : (old new old' new' : Option (List ℕ)) → Type 0
AppendFrontOf old new old' new' = (text : List ℕ) × Appends old new text × AppendsFront old' new' text

-- fronts of one text were appended to both
abbrev pub AppendFronts : (old new old' new' : Option (List ℕ)) → Type 0
AppendFronts old new old' new' = (text : List ℕ) × AppendsFront old new text × AppendsFront old' new' text

-- what a run of steps that mean this comes to by itself
abbrev pub result_of : List Numbered → Result (ScriptState × List Account) RunFault → Result Report RunFault
result_of steps (Ok made) = Ok (record { commands = length steps; held = set.len made.0.held; bits = made.0.bits })
result_of steps (Err fault) = Err fault

-- the path that an instruction reads, if it reads one, has this property
abbrev pub ReadsWhere : (P : List ℕ → Type 0) → Instruction → Type 0
ReadsWhere P (Use name path) = P path
ReadsWhere P (Restore path) = P path
ReadsWhere P _ = Unit {0}

-- each path that the steps read has it
abbrev pub AllReadWhere : (P : List ℕ → Type 0) → List Numbered → Type 0
AllReadWhere P [] = Unit {0}
AllReadWhere P (step ∷ steps) = ReadsWhere P step.instruction × AllReadWhere P steps

-- two shelves have the same at a path
abbrev pub IsSameAt : (files files' : Files) → (path : List ℕ) → Type 0
IsSameAt files files' path = files path ≡ files' path

-- what was the same at a path is so still, where the files are known
abbrev pub StaysSame : (files files' : Files) → (now now' : Option Files) → Type 0
StaysSame files files' (Some now) (Some now') = (path : List ℕ) → IsSameAt files files' path → IsSameAt now now' path
StaysSame files files' _ _ = ⊥
