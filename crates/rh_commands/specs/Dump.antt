-- What the dump of a key file writes, and why it writes nothing.
use Rattle.std.specs.Prelude.{◌≡◌, ◌≢◌, ◌⊎◌, ℕ, List, length, Option, Some, None, Result, Ok, Err}
use Rattle.std.specs.FinSet as set
use Rattle.std.specs.Io.KnownBytes.{Appends}
use Rattle.rh_layout.specs.declared.limits.TheConstants.{MIN_BITS, MAX_BITS}
use Rattle.rh_layout.specs.Layout.{Layout}
use Rattle.rh_grow.specs.Growth.{Fits, IsCapacity}
use Rattle.rh_key_files.specs.declared.fault.KeyFault.{KeyFault}
use Rattle.rh_key_files.specs.declared.fault.KeyFault.TheVariants as faults
use Rattle.rh_bytes.specs.Counting.{AppendsFront}
use Rattle.rh_key_files.specs.Limits.{header_bytes}
use Rattle.rh_bytes.specs.Taking.{TakesAtMost}
use Rattle.rh_key_files.specs.Reading.{BeginsWithHeader, IsFirstKeyFault, IsReadFrom}
use Rattle.rh_dump.specs.Dump.{dump_text}
use Rattle.rh_commands.specs.declared.dump.DumpFault.{DumpFault}
use Rattle.rh_commands.specs.declared.dump.DumpFault.TheVariants.{Keys, TooLarge, Memory, Write}

-- the text is the dump of a layout of the set of the keys, in the least table that they fit
pub record IsDumpOf (keys text : List ℕ) : Type 0 where
  pub bits : ℕ
  pub cells : List ℕ
  pub capacity : IsCapacity MIN_BITS (length keys) bits
  pub layout : Layout cells bits (set.from_list keys)
  pub dumped : text ≡ dump_text bits cells

-- the text is the dump of the keys of the key file that was read
abbrev pub IsDumpRead : (bytes left : Option (List ℕ)) (text : List ℕ) → Type 0
IsDumpRead bytes left text = (keys : List ℕ) × IsReadFrom bytes left keys × IsDumpOf keys text

-- want of memory is one fault, wherever it comes
abbrev pub from_keys : KeyFault → DumpFault
from_keys faults.Memory = Memory
from_keys fault = Keys fault

-- the fault that was found in the key file, if one was
abbrev pub dump_fault_in : {X : Type 0} → Result X DumpFault → Option KeyFault
dump_fault_in (Err (Keys fault)) = Some fault
dump_fault_in r = None

-- Memory was refused for the keys, of which only the header was read; or for a table that the keys of the whole file fit.
abbrev pub WantsMemory : (bytes left : Option (List ℕ)) → Type 0
WantsMemory bytes left =
    (BeginsWithHeader bytes × TakesAtMost bytes left header_bytes)
    ⊎ ((keys : List ℕ) × IsReadFrom bytes left keys × Fits MAX_BITS (length keys))

-- The bytes were a key file and its dump, or a front of it, was written; or they were none; or no table is large enough.
abbrev pub Dumps : {X : Type 0} → (bytes left old new : Option (List ℕ)) → Result X DumpFault → Type 0
Dumps bytes left old new (Ok x) = (text : List ℕ) × IsDumpRead bytes left text × Appends old new text
Dumps bytes left old new (Err Write) = (text : List ℕ) × IsDumpRead bytes left text × AppendsFront old new text
Dumps bytes left old new (Err (Keys fault)) = IsFirstKeyFault bytes fault × (fault ≢ faults.Memory)
Dumps bytes left old new (Err TooLarge) = (keys : List ℕ) × IsReadFrom bytes left keys × (Fits MAX_BITS (length keys) → ⊥)
Dumps bytes left old new (Err Memory) = WantsMemory bytes left
