-- What the code's commands and steps stand for.
use Rattle.std.specs.Prelude.{string_bytes}
use Rattle.rh_script.specs.declared.script.Command.{Command}
use Rattle.rh_script.specs.declared.script.Command.TheVariants as commands
use Rattle.rh_script.specs.declared.script.Step.{Step}
use Rattle.rh_script.specs.Instruction.{Instruction, Use, Act, Save, Clear, Dump, Snapshot, Restore, Numbered}
use Rattle.rh_script.specs.Plan.{Planned}

abbrev pub instruction_as : Command → Instruction
instruction_as (commands.Use name path) = Use (string_bytes name) (string_bytes path)
instruction_as (commands.Act action name) = Act action (string_bytes name)
instruction_as (commands.Save name) = Save (string_bytes name)
instruction_as commands.Clear = Clear
instruction_as commands.Dump = Dump
instruction_as (commands.Snapshot path) = Snapshot (string_bytes path)
instruction_as (commands.Restore path) = Restore (string_bytes path)

abbrev pub step_as : Step → Numbered
step_as step = record { line = step.line; instruction = instruction_as step.command }

-- with the number of its list
abbrev pub planned_as : Step → Planned
planned_as step = record { line = step.line; instruction = instruction_as step.command; list = step.list }
