-- The files of a script's world, and those of a shelf.
use Rattle.std.specs.Prelude.{◌≡◌, ◌≢◌, ℕ, ◌<◌, ◌^◌, List, Option, Some, None, option_map}
use Rattle.std.specs.FinSet as set
use Rattle.std.specs.Str.{bytes_eq}
use Rattle.std.specs.Map.{update}
use Rattle.rh_layout.specs.Layout.{Layout}
use Rattle.rh_edit.specs.Held.{Held}
use Rattle.rh_shelf.specs.Shelf.{Files}
use Rattle.rh_snapshot.specs.declared.version.Version.TheVariants.{Second}
use Rattle.rh_snapshot.specs.Snapshot.{snap_spelling}

-- What stands at a path: some bytes, or the snapshot of a table that the script put there.
pub data File : Type 0 where
  Bytes : (bytes : List ℕ) → File
  Sealed : (table : Held) → File

-- the file of each path that there is
abbrev pub FileMap : Type 0
FileMap = List ℕ → Option File

-- the files of a shelf before the first command
abbrev pub given_files : Files → FileMap
given_files files path = option_map Bytes (files path)

-- the files with a snapshot of the table at the path
abbrev pub with_snapshot : FileMap → (path : List ℕ) → Held → FileMap
with_snapshot files path table = update bytes_eq files path (Some (Sealed table))

-- The bytes of a path are this file. Those of a snapshot spell cells that are the one layout of its keys.
abbrev pub IsFile : Option File → (found : Option (List ℕ)) → Type 0
IsFile None found = found ≡ None
IsFile (Some (Bytes bytes)) found = found ≡ Some bytes
IsFile (Some (Sealed table)) found = (cells : List ℕ) × Layout cells table.bits table.keys × (set.len table.keys < 2 ^ table.bits) × (found ≡ Some (snap_spelling Second table.bits cells))

-- these are the files of a shelf that are known
abbrev pub HasFiles : FileMap → Option Files → Type 0
HasFiles files None = ⊥
HasFiles files (Some now) = (path : List ℕ) → IsFile (files path) (now path)

-- they are so but for one path
abbrev pub HasOthers : (path : List ℕ) → FileMap → Option Files → Type 0
HasOthers path files None = ⊥
HasOthers path files (Some now) = (other : List ℕ) → other ≢ path → IsFile (files other) (now other)
