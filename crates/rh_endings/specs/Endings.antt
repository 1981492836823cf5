-- How a program ends by a fault of a file, whatever its command is.
use Rattle.rh_key_files.specs.declared.fault.KeyFault.{KeyFault}
use Rattle.rh_key_files.specs.declared.fault.KeyFault.TheVariants as keys
use Rattle.rh_snapshot.specs.declared.fault.SnapFault.{SnapFault}
use Rattle.rh_snapshot.specs.declared.fault.SnapFault.TheVariants as snap
use Rattle.rh_cli.specs.declared.status.Status.{Status}
use Rattle.rh_cli.specs.declared.status.Status.TheVariants.{Refused, Memory}

-- how a run ends whose key file could not be read, or is none
abbrev pub ending_by_keys : KeyFault → Status
ending_by_keys keys.Memory = Memory
ending_by_keys fault = Refused

-- how a run ends whose snapshot could not be read, or is none
abbrev pub ending_by_snapshot : SnapFault → Status
ending_by_snapshot snap.Memory = Memory
ending_by_snapshot fault = Refused
