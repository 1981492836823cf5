-- What the listing of several files writes, and why it stops.
use Rattle.std.specs.Prelude.{◌≡◌, ℕ, Bool, true, false, List, [], ◌∷◌, take, slice_get, Option, Some, Result, Ok, Err}
use Rattle.std.specs.List.{flat_map}
use Rattle.std.specs.Io.KnownBytes.{Appends}
use Rattle.rh_layout.specs.Layout.{keys_of}
use Rattle.rh_edit.specs.Rising.{rising_keys}
use Rattle.rh_bytes.specs.Counting.{AppendsFront}
use Rattle.rh_key_files.specs.Reading as keys
use Rattle.rh_key_files.specs.declared.fault.KeyFault.TheVariants as key_faults
use Rattle.rh_shelf.specs.Shelf.{Files, Finds, Lacks}
use Rattle.rh_snapshot.specs.Reading as snapshots
use Rattle.rh_snapshot.specs.declared.fault.SnapFault.TheVariants as snap_faults
use Rattle.rh_snapshot.specs.Snapshot.{Table}
use Rattle.rh_numbers.specs.Writing.{text_of}
use Rattle.rh_key_texts.specs.declared.files.FileFault.{FileFault}
use Rattle.rh_key_texts.specs.declared.files.FileFault.TheVariants.{Shelf, Keys, Snap, Write}
use Rattle.rh_key_texts.specs.declared.files.FaultAt.{FaultAt}
use Rattle.rh_key_texts.specs.declared.files.Form.{Form}
use Rattle.rh_key_texts.specs.declared.files.Form.TheVariants as forms
use Rattle.rh_key_texts.specs.declared.listing.ListFault.{ListFault}
use Rattle.rh_key_texts.specs.declared.listing.ListFault.TheVariants as list
use Rattle.rh_key_texts.specs.declared.snapshot.HeldFault.{HeldFault}
use Rattle.rh_key_texts.specs.declared.snapshot.HeldFault.TheVariants as held

-- the fault of a key file, and of a snapshot, as one of a file
abbrev pub of_list : ListFault → FileFault
of_list (list.Keys fault) = Keys fault
of_list list.Write = Write

abbrev pub of_held : HeldFault → FileFault
of_held (held.Snap fault) = Snap fault
of_held held.Write = Write

-- The bytes are a file of this form, and these its keys: a key file's, however many, in their order, a snapshot's in rising order.
abbrev pub AreKeysIn : Form → (bytes left : Option (List ℕ)) → List ℕ → Type 0
AreKeysIn forms.Keys bytes left ks = keys.IsLongReadFrom bytes left ks
AreKeysIn forms.Snapshot bytes left ks = (table : Table) × snapshots.IsSnapReadFrom bytes left table × (ks ≡ rising_keys (keys_of table.cells))

-- the file at the path has these keys
abbrev pub Has : Option Files → Form → (path : List ℕ) → List ℕ → Type 0
Has files form path ks = (bytes : Option (List ℕ)) × (left : Option (List ℕ)) × Finds files path bytes × AreKeysIn form bytes left ks

-- each file has the keys of its list
abbrev pub HaveEach : Option Files → Form → List (List ℕ) → List (List ℕ) → Type 0
HaveEach files form [] [] = Unit {0}
HaveEach files form (path ∷ paths) (ks ∷ lists) = Has files form path ks × HaveEach files form paths lists
HaveEach files form paths lists = ⊥

-- Want of memory for what a file has comes only behind a header that can be read.
abbrev pub BeginsIfMemory : FileFault → Option (List ℕ) → Type 0
BeginsIfMemory (Keys key_faults.Memory) bytes = keys.BeginsWithLongHeader bytes
BeginsIfMemory (Snap snap_faults.Memory) bytes = snapshots.BeginsWithSnapHeader bytes
BeginsIfMemory fault bytes = Unit {0}

-- The text of the file's keys was written, or a front of it; or the file has a fault, this is its first, and nothing was written.
abbrev pub ListsFile : {X : Type 0} → Option Files → (path : List ℕ) → Form → (old new : Option (List ℕ)) → Result X FileFault → Type 0
ListsFile files path form old new (Ok x) = (ks : List ℕ) × Has files form path ks × Appends old new (text_of ks)
ListsFile files path form old new (Err Write) = (ks : List ℕ) × Has files form path ks × AppendsFront old new (text_of ks)
ListsFile files path form old new (Err (Keys fault)) = (new ≡ old) × (form ≡ forms.Keys) × (bytes : Option (List ℕ)) × Finds files path bytes × keys.IsFirstLongKeyFault bytes fault × BeginsIfMemory (Keys fault) bytes
ListsFile files path form old new (Err (Snap fault)) = (new ≡ old) × (form ≡ forms.Snapshot) × (bytes : Option (List ℕ)) × Finds files path bytes × snapshots.IsFirstSnapFault bytes fault × BeginsIfMemory (Snap fault) bytes
ListsFile files path form old new (Err (Shelf fault)) = new ≡ old

-- the texts of the files' keys were written, one after the other
abbrev pub ListsEach : Option Files → Form → List (List ℕ) → (old new : Option (List ℕ)) → Type 0
ListsEach files form paths old new = (lists : List (List ℕ)) × HaveEach files form paths lists × Appends old new (flat_map text_of lists)

-- All files were listed, or those before this one, and it has this fault.
abbrev pub ListsFiles : {X : Type 0} → Option Files → Form → List (List ℕ) → (old new : Option (List ℕ)) → Result X FaultAt → Type 0
ListsFiles files form paths old new (Ok x) = ListsEach files form paths old new
ListsFiles files form paths old new (Err e) =
    (path : List ℕ) × (mid : Option (List ℕ)) × (slice_get paths e.index ≡ Some path) × ListsEach files form (take e.index paths) old mid
    × ListsFile {X = Unit {0}} files path form mid new (Err e.fault)

-- the files are known not to have the path at this place
abbrev pub LacksAt : Option Files → List (List ℕ) → (index : ℕ) → Type 0
LacksAt files paths index = (path : List ℕ) × (slice_get paths index ≡ Some path) × Lacks files path

-- the fault tells a failed read
abbrev pub tells_failed_read : FileFault → Bool
tells_failed_read (Keys key_faults.Read) = true
tells_failed_read (Snap snap_faults.Read) = true
tells_failed_read fault = false
