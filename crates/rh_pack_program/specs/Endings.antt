-- How the program ends.
use Rattle.std.specs.Prelude.{Bool, true, false, Result, Ok, Err}
use Rattle.rh_cli.specs.declared.status.Status.{Status}
use Rattle.rh_cli.specs.declared.status.Status.TheVariants.{Refused, CommandLine, Memory, Write, ReaderGone}
use Rattle.rh_endings.specs.Endings.{ending_by_keys, ending_by_snapshot}
use Rattle.rh_keys_program.specs.Endings.{ending_by as ending_by_lists}
use Rattle.rh_numbers.specs.declared.fault.TextFault.TheVariants as text
use Rattle.rh_splitting.specs.declared.fault.FilesFault.{FilesFault}
use Rattle.rh_splitting.specs.declared.fault.FilesFault.TheVariants as files
use Rattle.rh_splitting.specs.declared.fault.SplitFault.TheVariants as split
use Rattle.rh_pack_program.specs.declared.fault.Fault.{Fault}
use Rattle.rh_pack_program.specs.declared.fault.Fault.TheVariants as fault

-- how a run ends whose list was not split
abbrev pub ending_by_part : FilesFault → Status
ending_by_part (files.Split (split.Text text.Memory)) = Memory
ending_by_part (files.Split (split.Text fault)) = Refused
ending_by_part (files.Split (split.Keys fault)) = ending_by_keys fault
ending_by_part (files.Split (split.TooMany part)) = Refused
ending_by_part (files.Split (split.Write part)) = Write
ending_by_part (files.Create part) = Write
ending_by_part (files.TooManyOpen part) = Write
ending_by_part (files.Left part) = Write
ending_by_part (files.Write part) = Write
ending_by_part files.Memory = Memory

-- how a run ends that a fault ended early
abbrev pub ending_by : Fault → Status
ending_by (fault.Lists fault) = ending_by_lists fault
ending_by (fault.Held place fault reason) = ending_by_snapshot fault
ending_by (fault.Part fault) = ending_by_part fault
ending_by (fault.TooFull part parts) = Refused
ending_by fault.Size = CommandLine
ending_by fault.Name = CommandLine

-- how the program ends: a fault is as good as told where the reader of the output has gone away
abbrev pub ending : Result Status Fault → (reader_gone : Bool) → Status
ending (Ok status) reader_gone = status
ending (Err fault) true = ReaderGone
ending (Err fault) false = ending_by fault
