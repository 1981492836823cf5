-- Why the words ask for nothing that can be done.
use Rattle.std.specs.Prelude.{◌≡◌, ◌≢◌, ⊤}
use Rattle.clap.specs.Kinds.{Kinds, IsAmong}
use Rattle.clap.specs.Values.{kind_of}
use Rattle.clap.specs.declared.error.Error.{Error}
use Rattle.clap.specs.declared.error.kind.ErrorKind.TheVariants.{OutOfMemory}
use Rattle.rh_arguments.specs.declared.fault.LineFault.{LineFault}
use Rattle.rh_arguments.specs.declared.fault.LineFault.TheVariants.{Words, Memory}

-- the fault passes on what clap told: want of memory by its own variant, and any other error whole
abbrev pub PassesOn : Error → LineFault → Type 0
PassesOn error (Words told) = (told ≡ error) × (kind_of error ≢ OutOfMemory)
PassesOn error Memory = kind_of error ≡ OutOfMemory

-- the words are refused, or ask for a text, by one of these kinds; or memory ran out
abbrev pub IsOneOf : Kinds → LineFault → Type 0
IsOneOf kinds (Words error) = IsAmong (kind_of error) kinds × (kind_of error ≢ OutOfMemory)
IsOneOf kinds Memory = ⊤
