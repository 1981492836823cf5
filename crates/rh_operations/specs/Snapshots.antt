-- Snapshots of a table.
use Rattle.std.specs.Prelude.{◌≡◌, ℕ, ◌<◌, ◌^◌, List}
use Rattle.std.specs.FinSet as set
use Rattle.rh_layout.specs.Layout.{Layout}
use Rattle.rh_edit.specs.Held.{Held}
use Rattle.rh_snapshot.specs.declared.version.Version.TheVariants.{Second}
use Rattle.rh_snapshot.specs.Snapshot.{snap_spelling}

-- the bytes are the snapshot of a table: they spell a layout of its keys that has a free cell
abbrev pub IsSnapshotOf : Held → List ℕ → Type 0
IsSnapshotOf table bytes = (cells : List ℕ) × Layout cells table.bits table.keys × (set.len table.keys < 2 ^ table.bits) × (bytes ≡ snap_spelling Second table.bits cells)
