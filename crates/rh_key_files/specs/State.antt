-- What a stream of keys told, by its state.
use Rattle.std.specs.Prelude.{Option, Some, None}
use Rattle.rh_key_files.specs.declared.fault.KeyFault.{KeyFault}
use Rattle.rh_key_files.specs.declared.stream.State.{State}
use Rattle.rh_key_files.specs.declared.stream.State.TheVariants.{Open, Ended, Failed}

-- the fault that it told
abbrev pub fault_in : State → Option KeyFault
fault_in Open = None
fault_in Ended = None
fault_in (Failed e) = Some e
