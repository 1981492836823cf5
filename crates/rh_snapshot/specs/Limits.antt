-- How many bytes of a snapshot the reading calls take, by what they answer.
use Rattle.std.specs.Prelude.{ℕ, ◌+◌, ◌*◌, ◌^◌, List, Option, Some, None, Result, Ok, Err}
use Rattle.rh_layout.specs.declared.limits.TheConstants.{MAX_BITS}
use Rattle.rh_bytes.specs.Taking.{TakesAtMost}
use Rattle.rh_snapshot.specs.declared.header.Header.{Header}
use Rattle.rh_snapshot.specs.declared.fault.SnapFault.{SnapFault}
use Rattle.rh_snapshot.specs.declared.fault.SnapFault.TheVariants.{NotSnapshot, BadBits, Damaged, NotALayout, Memory}
use Rattle.rh_snapshot.specs.Reading.{snap_header_at}

abbrev pub snap_magic_bytes : ℕ
snap_magic_bytes = 4

-- the magic, the bits and the number of full cells
abbrev pub snap_header_bytes : ℕ
snap_header_bytes = snap_magic_bytes + 1 + 8

abbrev pub seal_bytes : ℕ
seal_bytes = 32

-- of a header, by its fault
abbrev pub snap_header_taken : Option SnapFault → ℕ
snap_header_taken (Some NotSnapshot) = snap_magic_bytes
snap_header_taken (Some BadBits) = snap_magic_bytes + 1
snap_header_taken fault = snap_header_bytes

-- of so many numbers: where memory for them is refused, none
abbrev pub numbers_taken : ℕ → Option SnapFault → ℕ
numbers_taken n (Some Memory) = 0
numbers_taken n fault = 8 * n

-- the header, so many numbers and the seal
abbrev pub sealed_bytes : ℕ → ℕ
sealed_bytes cells = snap_header_bytes + 8 * cells + seal_bytes

-- and the byte that shows whether the file ends
abbrev pub whole_snap_bytes : ℕ → ℕ
whole_snap_bytes cells = sealed_bytes cells + 1

-- of a snapshot of so many cells
abbrev pub snap_bytes : ℕ → Option SnapFault → ℕ
snap_bytes cells (Some NotSnapshot) = snap_magic_bytes
snap_bytes cells (Some BadBits) = snap_magic_bytes + 1
snap_bytes cells (Some Memory) = snap_header_bytes
snap_bytes cells (Some Damaged) = sealed_bytes cells
snap_bytes cells (Some NotALayout) = sealed_bytes cells
snap_bytes cells fault = whole_snap_bytes cells

-- of any snapshot
abbrev pub most_snap_bytes : ℕ
most_snap_bytes = whole_snap_bytes (2 ^ MAX_BITS)

abbrev pub cells_in : Result (Header × List ℕ) SnapFault → ℕ
cells_in (Ok header) = 2 ^ header.0.bits
cells_in (Err e) = 0

-- the number of cells of a table of the header's bits, where the bytes are known and begin with a header
abbrev pub cells_said : Option (List ℕ) → ℕ
cells_said None = 0
cells_said (Some bytes) = cells_in (snap_header_at bytes)

-- A whole file was read, up to this fault if there is one, and the bytes behind that are still there. They are no more than those of
-- the largest snapshot.
pub record TakesOfSnap (old new : Option (List ℕ)) (fault : Option SnapFault) : Type 0 where
  pub taken : TakesAtMost old new (snap_bytes (cells_said old) fault)
  pub bounded : TakesAtMost old new most_snap_bytes
