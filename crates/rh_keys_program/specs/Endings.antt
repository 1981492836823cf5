-- How a run ends that reads lists.
use Rattle.std.specs.Prelude.{Bool, true, false, Result, Ok, Err}
use Rattle.rh_cli.specs.Endings.{ending_by_program as ending_by_program}
use Rattle.rh_cli.specs.declared.status.Status.{Status}
use Rattle.rh_cli.specs.declared.status.Status.TheVariants.{Refused, CommandLine, Memory, Write, ReaderGone}
use Rattle.rh_key_files.specs.declared.fault.KeyFault.TheVariants as keys
use Rattle.rh_numbers.specs.declared.fault.TextFault.TheVariants as text
use Rattle.rh_shelf.specs.declared.shelf.ShelfFault.TheVariants as shelf
use Rattle.rh_keys_program.specs.declared.fault.Fault.{Fault}
use Rattle.rh_keys_program.specs.declared.fault.Fault.TheVariants as fault
use Rattle.rh_keys_program.specs.declared.fault.InputFault.{InputFault}
use Rattle.rh_keys_program.specs.declared.fault.InputFault.TheVariants as input

-- how a run ends of which something was not read, or is not what it was to be
abbrev pub ending_by_input : InputFault → Status
ending_by_input (input.Open shelf.Missing) = Refused
ending_by_input (input.Open shelf.Memory) = Memory
ending_by_input (input.Open shelf.Write) = Write
ending_by_input (input.Text text.Memory) = Memory
ending_by_input (input.Text fault) = Refused
ending_by_input (input.Keys keys.Memory) = Memory
ending_by_input (input.Keys fault) = Refused

-- how a run ends that a fault ended early
abbrev pub ending_by : Fault → Status
ending_by (fault.Program fault) = ending_by_program fault
ending_by (fault.Input place fault reason shown) = ending_by_input fault
ending_by fault.InputTwice = CommandLine
ending_by fault.OneList = CommandLine
ending_by fault.TwoOutputs = CommandLine
ending_by (fault.Least lists) = CommandLine
ending_by fault.TooMany = CommandLine
ending_by (fault.Word word fault) = CommandLine
ending_by (fault.Expression fault marked) = CommandLine

-- how the program ends: a fault is as good as told where the reader of the output has gone away
abbrev pub ending : Result Status Fault → (reader_gone : Bool) → Status
ending (Ok status) reader_gone = status
ending (Err fault) true = ReaderGone
ending (Err fault) false = ending_by fault
