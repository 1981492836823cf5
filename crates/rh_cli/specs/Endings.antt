-- How a program ends.
use Rattle.std.specs.Prelude.{ℕ}
use Rattle.clap.specs.declared.error.kind.ErrorKind.{ErrorKind}
use Rattle.clap.specs.declared.error.kind.ErrorKind.TheVariants.{DisplayHelp, DisplayVersion}
use Rattle.rh_cli.specs.declared.status.ProgramFault.{ProgramFault}
use Rattle.rh_cli.specs.declared.status.ProgramFault.TheVariants as fault
use Rattle.rh_cli.specs.declared.status.Status.{Status}
use Rattle.rh_cli.specs.declared.status.Status.TheVariants.{Done, Refused, CommandLine, Memory, Write, ReaderGone}

-- the exit status of each ending
abbrev pub number_of : Status → ℕ
number_of Done = 0
number_of Refused = 1
number_of CommandLine = 2
number_of Memory = 3
number_of Write = 4
number_of ReaderGone = 141

-- how a run ends that printed what clap told: a text that was asked for, or a mistake in the words
abbrev pub ending_of : ErrorKind → Status
ending_of DisplayHelp = Done
ending_of DisplayVersion = Done
ending_of _ = CommandLine

-- how a run ends that a fault ended early which any command may meet
abbrev pub ending_by_program : ProgramFault → Status
ending_by_program fault.NotText = CommandLine
ending_by_program fault.Open = Refused
ending_by_program fault.Memory = Memory
ending_by_program fault.Write = Write
