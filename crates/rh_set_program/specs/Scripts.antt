-- How the run of a script ends.
use Rattle.std.specs.Prelude.{◌≡◌, ◌≢◌, ℕ, List, Option, Result, Ok, Err, IfSome, take}
use Rattle.rh_cli.specs.declared.status.ProgramFault.TheVariants as program
use Rattle.rh_cli.specs.declared.status.Status.{Status}
use Rattle.rh_cli.specs.declared.status.Status.TheVariants.{Done}
use Rattle.rh_operations.specs.declared.cause.Cause.{Cause}
use Rattle.rh_script.specs.Grammar.{script_of}
use Rattle.rh_script.specs.declared.fault.ScriptFaultKind.TheVariants as kinds
use Rattle.rh_set_program.specs.declared.script.TheConstants.{MAX_BYTES}
use Rattle.rh_set_program.specs.declared.status.Fault.{Fault}
use Rattle.rh_set_program.specs.declared.status.Fault.TheVariants as fault

-- what is told of a script that was not read: a failed read, want of memory, or the first fault of the text
abbrev pub TellsScript : Option (List ℕ) → Fault → Type 0
TellsScript bytes fault.Read = Unit {0}
TellsScript bytes (fault.Program f) = f ≡ program.Memory
TellsScript bytes (fault.Script f) = f.kind ≢ kinds.Memory → IfSome bytes (λ text. script_of (take MAX_BYTES text) ≡ Err f)
TellsScript bytes told = ⊥

-- how the command may end: done, or by a fault of the script's file or text, of its run, or of any command
abbrev pub EndsScript : Result Status Fault → Type 0
EndsScript (Ok status) = status ≡ Done
EndsScript (Err fault.Read) = Unit {0}
EndsScript (Err (fault.Program f)) = f ≢ program.NotText
EndsScript (Err (fault.Script f)) = Unit {0}
EndsScript (Err (fault.Run f)) = Unit {0}
EndsScript (Err told) = ⊥

-- why the script was not carried out, where it is that
abbrev pub cause_told : Result Status Fault → Result (Unit {0}) Cause
cause_told (Err (fault.Run f)) = Err f.cause
cause_told r = Ok tt
