-- How the program ends.
use Rattle.std.specs.Prelude.{Result, Ok, Err}
use Rattle.rh_cli.specs.Endings.{ending_by_program as ending_by_program}
use Rattle.rh_endings.specs.Endings.{ending_by_snapshot}
use Rattle.rh_cli.specs.declared.status.Status.{Status}
use Rattle.rh_cli.specs.declared.status.Status.TheVariants.{Refused, Memory, Write}
use Rattle.rh_script.specs.declared.fault.ScriptFaultKind.{ScriptFaultKind}
use Rattle.rh_script.specs.declared.fault.ScriptFaultKind.TheVariants as kinds
use Rattle.rh_operations.specs.declared.cause.Cause.{Cause}
use Rattle.rh_operations.specs.declared.cause.Cause.TheVariants as causes
use Rattle.rh_commands.specs.declared.check.CheckFault.TheVariants as check
use Rattle.rh_commands.specs.declared.dump.DumpFault.TheVariants as dump
use Rattle.rh_set_program.specs.declared.status.Fault.{Fault}
use Rattle.rh_set_program.specs.declared.status.Fault.TheVariants as fault

-- how a run ends whose script was refused
abbrev pub ending_by_line : ScriptFaultKind → Status
ending_by_line kinds.Memory = Memory
ending_by_line kind = Refused

-- how a run ends whose script was not carried out to its end
abbrev pub ending_by_cause : Cause → Status
ending_by_cause causes.Memory = Memory
ending_by_cause causes.NoThread = Memory
ending_by_cause causes.Put = Write
ending_by_cause causes.Write = Write
ending_by_cause cause = Refused

-- how a run ends that a fault ended early
abbrev pub ending_by : Fault → Status
ending_by (fault.Program fault) = ending_by_program fault
ending_by fault.Read = Refused
ending_by (fault.Dump (dump.Keys fault)) = Refused
ending_by (fault.Dump dump.TooLarge) = Refused
ending_by (fault.Dump dump.Memory) = Memory
ending_by (fault.Dump dump.Write) = Write
ending_by (fault.Check (check.Snap fault)) = ending_by_snapshot fault
ending_by (fault.Check check.Write) = Write
ending_by (fault.Script fault) = ending_by_line fault.kind
ending_by (fault.Run fault) = ending_by_cause fault.cause

-- how the program ends that came to this
abbrev pub ending : Result Status Fault → Status
ending (Ok status) = status
ending (Err fault) = ending_by fault
