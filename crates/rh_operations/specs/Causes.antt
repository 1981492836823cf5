-- The causes that the faults of other crates become.
use Rattle.rh_key_files.specs.declared.fault.KeyFault.{KeyFault}
use Rattle.rh_key_files.specs.declared.fault.KeyFault.TheVariants as key_faults
use Rattle.rh_snapshot.specs.declared.fault.SnapFault.{SnapFault}
use Rattle.rh_snapshot.specs.declared.fault.SnapFault.TheVariants as snap_faults
use Rattle.rh_runner.specs.declared.runner.PhaseFault.TheVariants as phase_faults
use Rattle.rh_runner.specs.declared.fault.ListFault.{ListFault}
use Rattle.rh_runner.specs.declared.fault.ListFault.TheVariants as list_faults
use Rattle.rh_operations.specs.declared.cause.Cause.{Cause}
use Rattle.rh_operations.specs.declared.cause.Cause.TheVariants.{Keys, Snap, Memory, NoThread}

abbrev pub of_keys : KeyFault → Cause
of_keys key_faults.Memory = Memory
of_keys fault = Keys fault

abbrev pub of_snapshot : SnapFault → Cause
of_snapshot snap_faults.Memory = Memory
of_snapshot fault = Snap fault

abbrev pub of_list : ListFault → Cause
of_list (list_faults.Keys fault) = of_keys fault
of_list (list_faults.Phase phase_faults.Memory) = Memory
of_list (list_faults.Phase phase_faults.NoThread) = NoThread
