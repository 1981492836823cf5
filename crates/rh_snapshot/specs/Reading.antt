-- Reading a snapshot from left to right, up to the first fault. A step gives a value and the bytes after it.
use Rattle.std.specs.Prelude.{ℕ, ◌^◌, Bool, true, false, ◌&&◌, ◌==◌, nat_lt, nat_le, if◌then◌else◌, List, slice_index, count_by, Option, Some, None, Result, Ok, Err}
use Rattle.std.specs.Str.{bytes_eq}
use Rattle.sha2.specs.Sha256.{sha256}
use Rattle.rh_layout.specs.declared.limits.TheConstants.{MIN_BITS}
use Rattle.rh_layout.specs.Key.{is_full}
use Rattle.rh_layout.specs.Test.{layout_test}
use Rattle.rh_bytes.specs.Input as input
use Rattle.rh_bytes.specs.Input.{◌>>=◌, bytes_at, number_at, many_at, end_at, AreAll, BeginsWith}
use Rattle.rh_snapshot.specs.declared.version.Version.{Version}
use Rattle.rh_snapshot.specs.declared.version.Version.TheVariants.{First, Second}
use Rattle.rh_snapshot.specs.declared.header.Header.{Header}
use Rattle.rh_snapshot.specs.declared.snapshot.Snapshot.{Snapshot}
use Rattle.rh_snapshot.specs.declared.fault.SnapFault.{SnapFault}
use Rattle.rh_snapshot.specs.declared.fault.SnapFault.TheVariants as faults
use Rattle.rh_snapshot.specs.declared.fault.SnapFault.TheVariants.{NotSnapshot, Short, BadBits, Damaged, NotALayout, Long}
use Rattle.rh_snapshot.specs.Snapshot.{snap_magic, most_bits, cells_as, text_of, Table, table_with, IsSnapshot}

-- the version whose snap_magic the four bytes are
abbrev pub snap_named : List ℕ × List ℕ → Result (Version × List ℕ) SnapFault
snap_named four =
    if bytes_eq four.0 (snap_magic First) then Ok (First, four.1)
    else if bytes_eq four.0 (snap_magic Second) then Ok (Second, four.1)
    else Err NotSnapshot

unfoldable pub snap_version_at : List ℕ → Result (Version × List ℕ) SnapFault
snap_version_at bytes = bytes_at Short 4 bytes >>= snap_named

abbrev pub are_bits : Version → ℕ → Bool
are_bits version bits = nat_le MIN_BITS bits && nat_le bits (most_bits version)

abbrev pub bits_in : Version → List ℕ × List ℕ → Result (ℕ × List ℕ) SnapFault
bits_in version one = if are_bits version (slice_index one.0 0) then Ok (slice_index one.0 0, one.1) else Err BadBits

unfoldable pub bits_at : Version → List ℕ → Result (ℕ × List ℕ) SnapFault
bits_at version bytes = bytes_at Short 1 bytes >>= bits_in version

abbrev pub with_snap_count : Version → (bits : ℕ) → ℕ × List ℕ → Result (Header × List ℕ) SnapFault
with_snap_count version bits count = Ok (record { version = version; bits = bits; count = count.0 }, count.1)

abbrev pub after_bits : Version → ℕ × List ℕ → Result (Header × List ℕ) SnapFault
after_bits version bits = number_at Short bits.1 >>= with_snap_count version bits.0

abbrev pub after_snap_version : Version × List ℕ → Result (Header × List ℕ) SnapFault
after_snap_version version = bits_at version.0 version.1 >>= after_bits version.0

-- the version, the bits and the count
unfoldable pub snap_header_at : List ℕ → Result (Header × List ℕ) SnapFault
snap_header_at bytes = snap_version_at bytes >>= after_snap_version

-- the number with this index
abbrev pub nth_number : ℕ → List ℕ → Result (ℕ × List ℕ) SnapFault
nth_number index bytes = number_at Short bytes

-- so many numbers
abbrev pub numbers_at : ℕ → List ℕ → Result (List ℕ × List ℕ) SnapFault
numbers_at n bytes = many_at nth_number 0 n bytes

abbrev pub is_sealed : Header → (numbers seal : List ℕ) → Bool
is_sealed header numbers seal = bytes_eq (sha256 (text_of header numbers)) seal

-- The cells are a layout with a free cell, and the count is that of the full ones.
abbrev pub is_table : Header → List ℕ → Bool
is_table header numbers =
    ((count_by is_full numbers == header.count) && nat_lt header.count (2 ^ header.bits))
    && layout_test header.bits (cells_as header.version numbers)

-- the table in what was read, tested
unfoldable pub table_in : Header → (numbers seal : List ℕ) → Result Table SnapFault
table_in header numbers seal =
    if is_sealed header numbers seal then (if is_table header numbers then Ok (table_with header numbers seal) else Err NotALayout)
    else Err Damaged

abbrev pub snap_ended : List ℕ → Table → Result (Table × List ℕ) SnapFault
snap_ended bytes table = end_at Long bytes >>= (λ end. Ok (table, end.1))

abbrev pub after_numbers : Header → List ℕ × List ℕ → Result (Table × List ℕ) SnapFault
after_numbers header numbers =
    bytes_at Short 32 numbers.1 >>= (λ seal. table_in header numbers.0 seal.0 >>= snap_ended seal.1)

abbrev pub after_snap_header : Header × List ℕ → Result (Table × List ℕ) SnapFault
after_snap_header header = numbers_at (2 ^ header.0.bits) header.1 >>= after_numbers header.0

-- a whole file: the table, and nothing after it
unfoldable pub file_table : List ℕ → Result (Table × List ℕ) SnapFault
file_table bytes = snap_header_at bytes >>= after_snap_header

-- ---- what is said of a reader's bytes, as of those of any file

-- A failed read and want of memory say nothing of the bytes.
abbrev pub is_snap_silent : SnapFault → Bool
is_snap_silent faults.Read = true
is_snap_silent faults.Memory = true
is_snap_silent e = false

abbrev pub SnapFails : {X : Type 0} → SnapFault → Result X SnapFault → Type 0
SnapFails e said = input.Fails is_snap_silent e said

abbrev pub ReadsSnap : {X Y : Type 0} → Option (List ℕ) → Option (List ℕ) → (List ℕ → Result (Y × List ℕ) SnapFault) → (X → Y) → Result X SnapFault → Type 0
ReadsSnap old new reading view r = input.Reads is_snap_silent old new reading view r

-- Known bytes are no snapshot, and this is the first fault in them.
abbrev pub IsFirstSnapFault : Option (List ℕ) → SnapFault → Type 0
IsFirstSnapFault None fault = Unit {0}
IsFirstSnapFault (Some bytes) fault = SnapFails fault (file_table bytes)

-- known bytes begin with a header that can be read
abbrev pub BeginsWithSnapHeader : Option (List ℕ) → Type 0
BeginsWithSnapHeader old = BeginsWith snap_header_at old

abbrev pub table_as : Snapshot → Table
table_as s = record { bits = s.bits; count = s.count; cells = s.cells.items; seal = s.seal }

-- Known bytes are a snapshot of this table, and none is left.
abbrev pub IsSnapReadFrom : Option (List ℕ) → Option (List ℕ) → Table → Type 0
IsSnapReadFrom old new table = AreAll IsSnapshot old new table
