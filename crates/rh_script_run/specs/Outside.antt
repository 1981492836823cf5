-- The causes that the script and the files do not have, command by command.
use Rattle.rh_script.specs.Instruction.{Instruction, Use, Act, Save, Clear, Dump, Snapshot, Restore}
use Rattle.rh_operations.specs.declared.cause.Cause.{Cause}
use Rattle.rh_operations.specs.Outside.{Outside}
use Rattle.rh_operations.specs.Refusals.{MemoryFails, ListFails, PhaseFails, PutFails, RestoreFails}

-- Such a cause of a command, by what failed meanwhile.
-- Where its report could not be written is told elsewhere.
abbrev pub IsOutside : Instruction → (old new : Outside) → Cause → Type 0
IsOutside (Use name path) old new cause = ListFails old.shelf new.shelf cause
IsOutside (Act action name) old new cause = PhaseFails old new cause
IsOutside (Save name) old new cause = MemoryFails cause
IsOutside Clear old new cause = MemoryFails cause
IsOutside Dump old new cause = ⊥
IsOutside (Snapshot path) old new cause = PutFails old.shelf new.shelf cause
IsOutside (Restore path) old new cause = RestoreFails old.shelf new.shelf cause
