-- What is found in the bytes of a path or of a list, or why it is not there.
use Rattle.std.specs.Prelude.{ℕ, ◌==◌, if◌then◌else◌, List, Option, Some, None, Result, Ok, Err}
use Rattle.rh_layout.specs.Layout.{keys_of}
use Rattle.rh_edit.specs.Held.{Held}
use Rattle.rh_key_files.specs.declared.fault.KeyFault.{KeyFault}
use Rattle.rh_key_files.specs.Reading.{count_in_header}
use Rattle.rh_key_files.specs.Source.{keys_of_file}
use Rattle.rh_snapshot.specs.declared.fault.SnapFault.{SnapFault}
use Rattle.rh_snapshot.specs.Snapshot.{Table}
use Rattle.rh_snapshot.specs.Reading.{file_table}
use Rattle.rh_operations.specs.declared.cause.Cause.{Cause}
use Rattle.rh_operations.specs.declared.cause.Cause.TheVariants.{Missing, Keys, Snap, Changed}
use Rattle.rh_bytes.specs.Input.{◌>>=◌}

abbrev pub keys_or_cause : Result (List ℕ) KeyFault → Result (List ℕ) Cause
keys_or_cause (Ok keys) = Ok keys
keys_or_cause (Err fault) = Err (Keys fault)

-- the keys of the bytes that were found
abbrev pub keys_found : Option (List ℕ) → Result (List ℕ) Cause
keys_found None = Err Missing
keys_found (Some bytes) = keys_or_cause (keys_of_file bytes)

abbrev pub table_or_cause : Result (Table × List ℕ) SnapFault → Result Held Cause
table_or_cause (Ok read) = Ok (record { bits = read.0.bits; keys = keys_of read.0.cells })
table_or_cause (Err fault) = Err (Snap fault)

-- the table of the bytes that were found
abbrev pub table_found : Option (List ℕ) → Result Held Cause
table_found None = Err Missing
table_found (Some bytes) = table_or_cause (file_table bytes)

-- ---- a list whose number of keys was noted

abbrev pub count_or_cause : Result ℕ KeyFault → Result ℕ Cause
count_or_cause (Ok count) = Ok count
count_or_cause (Err fault) = Err (Keys fault)

-- the number of keys that the header says
abbrev pub header_count : Option (List ℕ) → Result ℕ Cause
header_count None = Err Missing
header_count (Some bytes) = count_or_cause (count_in_header bytes)

abbrev pub still : (noted count : ℕ) → Result ℕ Cause
still noted count = if count == noted then Ok count else Err Changed

-- the number that the header says, which has to be the noted one
abbrev pub count_again : (noted : ℕ) → Option (List ℕ) → Result ℕ Cause
count_again noted found = header_count found >>= still noted
