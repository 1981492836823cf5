-- What the listing of a key file or a snapshot writes, and why it writes nothing.
use Rattle.std.specs.Prelude.{◌⊎◌, ℕ, List, Option, Some, None, Result, Ok, Err}
use Rattle.std.specs.Io.KnownBytes.{Appends}
use Rattle.rh_layout.specs.Layout.{keys_of}
use Rattle.rh_edit.specs.Rising.{rising_keys}
use Rattle.rh_bytes.specs.Counting.{AppendsFront}
use Rattle.rh_key_files.specs.declared.fault.KeyFault.{KeyFault}
use Rattle.rh_key_files.specs.Reading as files
use Rattle.rh_snapshot.specs.declared.fault.SnapFault.{SnapFault}
use Rattle.rh_snapshot.specs.declared.fault.SnapFault.TheVariants as snap_faults
use Rattle.rh_snapshot.specs.Limits.{TakesOfSnap}
use Rattle.rh_snapshot.specs.Snapshot.{Table}
use Rattle.rh_snapshot.specs.Reading as snapshots
use Rattle.rh_numbers.specs.Writing.{text_of}
use Rattle.rh_key_texts.specs.declared.listing.ListFault.{ListFault}
use Rattle.rh_key_texts.specs.declared.listing.ListFault.TheVariants as list
use Rattle.rh_key_texts.specs.declared.snapshot.HeldFault.{HeldFault}
use Rattle.rh_key_texts.specs.declared.snapshot.HeldFault.TheVariants as held

-- the fault that was found in the key file, if one was
abbrev pub list_fault_in : {X : Type 0} → Result X ListFault → Option KeyFault
list_fault_in (Err (list.Keys fault)) = Some fault
list_fault_in r = None

-- The bytes were a key file, of any number of keys, and their text, or a front of it, was written; or they were none.
abbrev pub Lists : {X : Type 0} → (bytes left old new : Option (List ℕ)) → Result X ListFault → Type 0
Lists bytes left old new (Ok x) = (keys : List ℕ) × files.IsLongReadFrom bytes left keys × Appends old new (text_of keys)
Lists bytes left old new (Err list.Write) = (keys : List ℕ) × files.IsLongReadFrom bytes left keys × AppendsFront old new (text_of keys)
Lists bytes left old new (Err (list.Keys fault)) = files.IsFirstLongKeyFault bytes fault

-- The fault that was found in the snapshot, if one was. Want of memory may come after it was read.
abbrev pub fault_held : {X : Type 0} → Result X HeldFault → Option SnapFault
fault_held (Err (held.Snap snap_faults.Memory)) = None
fault_held (Err (held.Snap fault)) = Some fault
fault_held r = None

-- Want of memory comes before a byte behind the header is read, or once a whole snapshot was.
abbrev pub ComesFirstOrLast : (bytes left : Option (List ℕ)) → Type 0
ComesFirstOrLast bytes left = TakesOfSnap bytes left (Some snap_faults.Memory) ⊎ ((table : Table) × snapshots.IsSnapReadFrom bytes left table)

-- the text of the keys of a table, in rising order
abbrev pub held_text : Table → List ℕ
held_text table = text_of (rising_keys (keys_of table.cells))

-- The bytes were a snapshot, and the text of its keys, or a front of it, was written; or they were none.
abbrev pub ListsHeld : {X : Type 0} → (bytes left old new : Option (List ℕ)) → Result X HeldFault → Type 0
ListsHeld bytes left old new (Ok x) = (table : Table) × snapshots.IsSnapReadFrom bytes left table × Appends old new (held_text table)
ListsHeld bytes left old new (Err held.Write) = (table : Table) × snapshots.IsSnapReadFrom bytes left table × AppendsFront old new (held_text table)
ListsHeld bytes left old new (Err (held.Snap fault)) = snapshots.IsFirstSnapFault bytes fault

-- the answer where all went well
abbrev pub listed : Result (Unit {0}) ListFault
listed = Ok tt
