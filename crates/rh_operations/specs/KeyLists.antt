-- The lists that have a name, as the code has them.
use Rattle.std.specs.Prelude.{◌≡◌, ℕ, List, [], ◌∷◌, length, Option, Some, None, Ok}
use Rattle.std.specs.List.{flat_map}
use Rattle.rh_shelf.specs.Shelf.{Files}
use Rattle.rh_operations.specs.declared.key_lists.KeyList.{KeyList}
use Rattle.rh_operations.specs.declared.key_lists.Source.{Source}
use Rattle.rh_operations.specs.declared.key_lists.Source.TheVariants.{Path, Memory}
use Rattle.rh_operations.specs.declared.key_lists.ListReader.{ListReader}
use Rattle.rh_operations.specs.declared.key_lists.ListReader.TheVariants as readers
use Rattle.rh_operations.specs.Found.{keys_found}

-- the bytes that a reader still gives, where they are known
abbrev pub bytes_left : {R : Type 0} → (R → Option (List ℕ)) → ListReader R → Option (List ℕ)
bytes_left remaining (readers.File reader) = remaining reader
bytes_left remaining (readers.Memory bytes) = Some bytes.now

abbrev pub source_bytes : Files → Source → Option (List ℕ)
source_bytes files (Path path) = files path.now
source_bytes files (Memory bytes) = Some bytes.items

-- a reader of these bytes was opened, which are those of the source where the files are known
abbrev pub Opens : Option Files → Source → Option (List ℕ) → Type 0
Opens None source bytes = Unit {0}
Opens (Some files) source bytes = (found : List ℕ) × (source_bytes files source ≡ Some found) × (bytes ≡ Some found)

-- The files are known, and the list's has these keys, as many as were noted.
abbrev pub Stands : Option Files → KeyList → List ℕ → Type 0
Stands None list keys = ⊥
Stands (Some files) list keys = (keys_found (source_bytes files list.source) ≡ Ok keys) × (length keys ≡ list.count)

-- A reading of the list gave these keys: as many as were noted, and those of its file where the files are known.
abbrev pub Gave : Option Files → KeyList → List ℕ → Type 0
Gave None list keys = length keys ≡ list.count
Gave (Some files) list keys = Stands (Some files) list keys

abbrev pub path_of : Source → List (List ℕ)
path_of (Path path) = path.now ∷ []
path_of (Memory bytes) = []

-- the paths of the lists that are files of the shelf, in order
abbrev pub paths_of : List KeyList → List (List ℕ)
paths_of lists = flat_map (λ list. path_of list.source) lists
