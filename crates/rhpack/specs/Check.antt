-- How the command `check` ends.
use Rattle.std.specs.Prelude.{◌≡◌, ◌⊎◌, ℕ, List, [], ◌++◌, Option, Result, Ok, Err, codes, string_bytes}
use Rattle.rh_cli.specs.declared.status.ProgramFault.TheVariants.{Write, Memory}
use Rattle.rh_cli.specs.declared.status.Status.{Status}
use Rattle.rh_cli.specs.declared.status.Status.TheVariants.{Done, Refused}
use Rattle.rh_keys_program.specs.Told.{TellsList}
use Rattle.rh_keys_program.specs.declared.fault.Fault.{Fault}
use Rattle.rh_keys_program.specs.declared.fault.Fault.TheVariants as fault
use Rattle.rh_keys_program.specs.declared.fault.Place.{Place}
use Rattle.rh_keys_program.specs.declared.fault.Place.TheVariants as place
use Rattle.rh_lists.specs.declared.fault.FileFault.{FileFault}

-- what each line of a report begins by
abbrev pub name_of : Place → List ℕ
name_of place.Input = []
name_of (place.File path) = string_bytes path ++ codes ": "

-- a failed write and want of memory, which end the run
abbrev pub IsOfProgram : Fault → Type 0
IsOfProgram told = (told ≡ fault.Program Write) ⊎ (told ≡ fault.Program Memory)

-- what is told of a list of which there is no report
abbrev pub TellsPlace : (path : Option (List ℕ)) → Fault → Type 0
TellsPlace path told = IsOfProgram told ⊎ ((f : FileFault) × TellsList path f told)

-- how the command may end: each list has a report with no bad line; or one has a bad line, or was told; or the run ended early
abbrev pub EndsCheck : Result Status Fault → Type 0
EndsCheck (Ok status) = (status ≡ Done) ⊎ (status ≡ Refused)
EndsCheck (Err told) = (told ≡ fault.InputTwice) ⊎ IsOfProgram told
