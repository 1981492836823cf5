-- How a command on lists ends.
use Rattle.std.specs.Prelude.{◌≡◌, ℕ, ◌<◌, List, Result, Ok, Err}
use Rattle.std.specs.List.{count_by}
use Rattle.rh_cli.specs.declared.status.Status.{Status}
use Rattle.rh_cli.specs.declared.status.Status.TheVariants.{Done}
use Rattle.rh_lists.specs.Files.{is_input}
use Rattle.rh_lists.specs.declared.fault.CommandFault.{CommandFault}
use Rattle.rh_keys_program.specs.Told.{TellsCommand}
use Rattle.rh_keys_program.specs.declared.fault.Fault.{Fault}
use Rattle.rh_keys_program.specs.declared.fault.Fault.TheVariants as fault

-- done, refused as it names standard input again, or by what is told of the lists
abbrev pub EndsLists : (paths : List (List ℕ)) → Result Status Fault → Type 0
EndsLists paths (Ok status) = status ≡ Done
EndsLists paths (Err fault.InputTwice) = 0 < count_by is_input paths
EndsLists paths (Err told) = (f : CommandFault) × TellsCommand paths f told
