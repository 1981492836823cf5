-- The grammar of snapshots: which bytes are a snapshot, and of which table.
use Rattle.std.specs.Prelude.{◌≡◌, ℕ, ◌≤◌, ◌<◌, ◌^◌, if◌then◌else◌, List, ◌∷◌, ◌++◌, map, codes, count_by}
use Rattle.std.specs.List.{flat_map, filter}
use Rattle.std.specs.FinSet as set
use Rattle.sha2.specs.Sha256.{sha256}
use Rattle.rh_layout.specs.declared.limits.TheConstants.{MIN_BITS, MAX_BITS}
use Rattle.rh_layout.specs.Key.{cell_of, is_full}
use Rattle.rh_layout.specs.Layout.{Keys, IsLayout, keys_of}
use Rattle.rh_bytes.specs.Input.{eight_bytes}
use Rattle.rh_snapshot.specs.declared.version.Version.{Version}
use Rattle.rh_snapshot.specs.declared.version.Version.TheVariants.{First, Second}
use Rattle.rh_snapshot.specs.declared.version.TheConstants.{FIRST_MAX_BITS}
use Rattle.rh_snapshot.specs.declared.header.Header.{Header}

-- the first four bytes
abbrev pub snap_magic : Version → List ℕ
snap_magic First = codes "RHS1"
snap_magic Second = codes "RHS2"

-- the greatest size of a table, in bits
abbrev pub most_bits : Version → ℕ
most_bits First = FIRST_MAX_BITS
most_bits Second = MAX_BITS

-- what a cell holds where a first version has this number: 0 is an empty cell there, and a key stands for itself
abbrev pub cell_of_first : ℕ → ℕ
cell_of_first n = if is_full n then cell_of n else 0

-- the cells that the numbers of a file stand for
-- cells_as First [0, 0, 0, 0, 1, 9, 17, 0] = [0, 0, 0, 0, 2, 10, 18, 0]; the seals of the two files differ
abbrev pub cells_as : Version → List ℕ → List ℕ
cells_as First numbers = map cell_of_first numbers
cells_as Second numbers = numbers

-- the keys that the numbers of a file stand for
abbrev pub keys_written : Version → List ℕ → Keys
keys_written First numbers = set.from_list (filter is_full numbers)
keys_written Second numbers = keys_of numbers

-- the header of these numbers, which counts the full cells
abbrev pub snap_header_of : Version → (bits : ℕ) → List ℕ → Header
snap_header_of version bits numbers = record { version = version; bits = bits; count = count_by is_full numbers }

abbrev pub spelled_header : Header → List ℕ
spelled_header header = snap_magic header.version ++ (header.bits ∷ eight_bytes header.count)

-- the numbers one after the other
abbrev pub spelled_numbers : List ℕ → List ℕ
spelled_numbers numbers = flat_map eight_bytes numbers

-- all that comes before the seal
abbrev pub text_of : Header → List ℕ → List ℕ
text_of header numbers = spelled_header header ++ spelled_numbers numbers

-- a text, and its seal
abbrev pub sealed : List ℕ → List ℕ
sealed text = text ++ sha256 text

-- the one snap_spelling of these numbers in this version
abbrev pub snap_spelling : Version → (bits : ℕ) → List ℕ → List ℕ
snap_spelling version bits numbers = sealed (text_of (snap_header_of version bits numbers) numbers)

-- the bytes are a snapshot of this version, of these numbers
pub record SnapshotFile (version : Version) (bytes : List ℕ) (bits : ℕ) (numbers : List ℕ) : Type 0 where
  pub spelled : bytes ≡ snap_spelling version bits numbers
  pub in_range : (MIN_BITS ≤ bits) × (bits ≤ most_bits version)
  pub layout : IsLayout bits (cells_as version numbers)
  pub free : count_by is_full numbers < 2 ^ bits

-- what a snapshot holds: the cells are ours, in either version
pub record Table : Type 0 where
  pub bits : ℕ
  pub count : ℕ
  pub cells : List ℕ
  pub seal : List ℕ

-- the cells are a layout with a free cell, and the count is that of their keys
pub record IsLaidOut (table : Table) : Type 0 where
  pub layout : IsLayout table.bits table.cells
  pub count : table.count ≡ set.len (keys_of table.cells)
  pub free : set.len (keys_of table.cells) < 2 ^ table.bits

abbrev pub table_with : Header → (numbers seal : List ℕ) → Table
table_with header numbers seal =
    record { bits = header.bits; count = header.count; cells = cells_as header.version numbers; seal = seal }

-- the table of a snapshot of this version, of these numbers
abbrev pub table_of : Version → (bits : ℕ) → List ℕ → Table
table_of version bits numbers =
    table_with (snap_header_of version bits numbers) numbers (sha256 (text_of (snap_header_of version bits numbers) numbers))

-- The bytes are a snapshot of this version, of these numbers, and the table is theirs. It holds the keys that were written.
pub record SnapshotOf (version : Version) (bytes numbers : List ℕ) (table : Table) : Type 0 where
  pub file : SnapshotFile version bytes table.bits numbers
  pub same : table ≡ table_of version table.bits numbers
  pub keys : keys_of table.cells ≡ keys_written version numbers

-- the bytes are a snapshot of this table, in one of the versions
abbrev pub IsSnapshot : (bytes : List ℕ) → Table → Type 0
IsSnapshot bytes table = (version : Version) × (numbers : List ℕ) × SnapshotOf version bytes numbers table
