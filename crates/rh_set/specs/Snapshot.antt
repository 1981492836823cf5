-- Snapshots of a set.
use Rattle.std.specs.Prelude.{◌≡◌, ℕ, ◌<◌, List, length}
use Rattle.rh_edit.specs.Held.{Held}
use Rattle.rh_snapshot.specs.declared.version.Version.{Version}
use Rattle.rh_snapshot.specs.declared.version.Version.TheVariants.{Second}
use Rattle.rh_snapshot.specs.Snapshot.{SnapshotFile, keys_written}
use Rattle.rh_set.specs.declared.fault.PutFault.{PutFault}
use Rattle.rh_set.specs.declared.fault.PutFault.TheVariants.{NoRoom, Memory}
use Rattle.rh_set.specs.Putting.{IsPutInFront}

-- the bytes are a snapshot of this version, of a table of this size, and the keys of the set are written there
pub record IsSnapshotOf (version : Version) (bytes : List ℕ) (held : Held) : Type 0 where
  pub numbers : List ℕ
  pub file : SnapshotFile version bytes held.bits numbers
  pub keys : held.keys ≡ keys_written version numbers

-- a snapshot of the set stands at the front of a slice, and behind it what stood there
abbrev pub IsSnapshotPut : Held → (old new : List ℕ) → (count : ℕ) → Type 0
IsSnapshotPut held old new count = (bytes : List ℕ) × IsSnapshotOf Second bytes held × IsPutInFront bytes old new count

-- Why no snapshot is put into a slice of this length: it has so many bytes. Of want of memory nothing is said.
abbrev pub IsWhyNoSnapshot : Held → (room : ℕ) → PutFault → Type 0
IsWhyNoSnapshot held room (NoRoom count) = (bytes : List ℕ) × IsSnapshotOf Second bytes held × (count ≡ length bytes) × (room < count)
IsWhyNoSnapshot held room Memory = Unit {0}
