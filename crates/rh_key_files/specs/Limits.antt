-- How many bytes of a key file the reading calls take, by what they answer.
use Rattle.std.specs.Prelude.{ℕ, ◌+◌, ◌-◌, ◌*◌, min, ◌==◌, if◌then◌else◌, List, Option, Some, None, Result, Ok, Err}
use Rattle.rh_key_files.specs.declared.header.Header.{Header}
use Rattle.rh_layout.specs.declared.limits.TheConstants.{MAX_KEYS}
use Rattle.rh_key_files.specs.declared.batch.TheConstants.{PART_KEYS}
use Rattle.rh_key_files.specs.declared.fault.KeyFault.{KeyFault}
use Rattle.rh_key_files.specs.declared.fault.KeyFault.TheVariants.{NotKeys, Short, TooMany, BadKey, Read, Memory}
use Rattle.rh_key_files.specs.Reading.{header_at, long_header_at}
use Rattle.rh_bytes.specs.Input.{number_at}
use Rattle.rh_bytes.specs.Taking.{TakesAtMost}

abbrev pub magic_bytes : ℕ
magic_bytes = 4

-- the magic and the number of keys
abbrev pub header_bytes : ℕ
header_bytes = magic_bytes + 8

-- What a call tells says that no read failed. A key out of range does not: it may stand in a part before a failed read.
abbrev pub NoKeyReadFailed : Option KeyFault → Type 0
NoKeyReadFailed (Some Read) = ⊥
NoKeyReadFailed (Some (BadKey index)) = ⊥
NoKeyReadFailed fault = Unit {0}

-- of a header, by its fault
abbrev pub header_taken : Option KeyFault → ℕ
header_taken (Some NotKeys) = magic_bytes
header_taken fault = header_bytes

-- of n keys, of which the first has this index: the part in which a key out of range stands is the last that is read
abbrev pub keys_taken : (index n : ℕ) → Option KeyFault → ℕ
keys_taken index n (Some (BadKey bad)) = min n (bad - index + PART_KEYS)
keys_taken index n fault = n

-- of a batch, where so many keys are left: the keys that it has room for, or the byte that shows whether the file ends
abbrev pub batch_bytes : (index left room : ℕ) → Option KeyFault → ℕ
batch_bytes index left room fault = if left == 0 then 1 else 8 * keys_taken index (min room left) fault

-- the header, so many keys, and the byte that shows whether the file ends
abbrev pub whole_bytes : ℕ → ℕ
whole_bytes count = header_bytes + 8 * count + 1

-- of a file of so many keys
abbrev pub file_bytes : ℕ → Option KeyFault → ℕ
file_bytes count (Some NotKeys) = magic_bytes
file_bytes count (Some TooMany) = header_bytes
file_bytes count (Some Memory) = header_bytes
file_bytes count (Some (BadKey index)) = header_bytes + 8 * min count (index + PART_KEYS)
file_bytes count fault = whole_bytes count

-- of any file
abbrev pub most_bytes : ℕ
most_bytes = whole_bytes MAX_KEYS

abbrev pub count_in : Result (Header × List ℕ) KeyFault → ℕ
count_in (Ok header) = header.0.count
count_in (Err e) = 0

-- the number of keys that the header says, where the bytes are known and begin with one
abbrev pub count_said : Option (List ℕ) → ℕ
count_said None = 0
count_said (Some bytes) = count_in (header_at bytes)

-- A whole file was read, up to this fault if there is one, and the bytes behind that are still there. They are no more than those of
-- the largest file.
pub record TakesOfFile (old new : Option (List ℕ)) (fault : Option KeyFault) : Type 0 where
  pub taken : TakesAtMost old new (file_bytes (count_said old) fault)
  pub bounded : TakesAtMost old new most_bytes

-- ---- a file of any number of keys

-- behind the magic, where so many keys are said there: want of memory may come after any piece of them
abbrev pub bytes_behind : ℕ → Option KeyFault → ℕ
bytes_behind count (Some Memory) = 8 + 8 * count
bytes_behind count (Some (BadKey index)) = 8 + 8 * min count (index + PART_KEYS)
bytes_behind count fault = 8 + 8 * count + 1

-- of a whole file of so many keys
abbrev pub long_file_bytes : ℕ → Option KeyFault → ℕ
long_file_bytes count (Some NotKeys) = magic_bytes
long_file_bytes count fault = magic_bytes + bytes_behind count fault

abbrev pub first_number : Result (ℕ × List ℕ) KeyFault → ℕ
first_number (Ok n) = n.0
first_number (Err e) = 0

-- the number that known bytes begin with, as they do behind the magic
abbrev pub number_said : Option (List ℕ) → ℕ
number_said None = 0
number_said (Some bytes) = first_number (number_at Short bytes)

-- the number of keys that the header says, however large it is
abbrev pub long_count_said : Option (List ℕ) → ℕ
long_count_said None = 0
long_count_said (Some bytes) = count_in (long_header_at bytes)

-- What stands behind the magic was read, up to this fault if there is one, and the bytes behind that are still there.
abbrev pub TakesBehindMagic : (old new : Option (List ℕ)) → Option KeyFault → Type 0
TakesBehindMagic old new fault = TakesAtMost old new (bytes_behind (number_said old) fault)

-- The same of a whole file.
abbrev pub TakesOfLongFile : (old new : Option (List ℕ)) → Option KeyFault → Type 0
TakesOfLongFile old new fault = TakesAtMost old new (long_file_bytes (long_count_said old) fault)
