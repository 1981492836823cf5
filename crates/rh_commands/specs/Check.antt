-- What the check of a snapshot writes, and why it writes nothing.
use Rattle.std.specs.Prelude.{◌≡◌, ℕ, List, ◌++◌, codes, decimal, Option, Some, None, Result, Ok, Err}
use Rattle.std.specs.Io.KnownBytes.{Appends}
use Rattle.hex.specs.Hex.{encode_lower}
use Rattle.rh_bytes.specs.Counting.{AppendsFront}
use Rattle.rh_snapshot.specs.declared.fault.SnapFault.{SnapFault}
use Rattle.rh_snapshot.specs.Snapshot.{Table}
use Rattle.rh_snapshot.specs.Reading.{IsFirstSnapFault, IsSnapReadFrom}
use Rattle.rh_commands.specs.declared.check.CheckFault.{CheckFault}
use Rattle.rh_commands.specs.declared.check.CheckFault.TheVariants.{Snap, Write}

-- the line of a table: its bits, the number of its keys, and each byte of its seal as two hexadecimal digits
abbrev pub check_text : Table → List ℕ
check_text table =
    codes "bits " ++ (decimal table.bits ++ (codes " held " ++ (decimal table.count ++ (codes " seal " ++ (encode_lower table.seal ++ codes "\n")))))

-- the text is the line of the table of the snapshot that was read
abbrev pub IsLineRead : (bytes left : Option (List ℕ)) (text : List ℕ) → Type 0
IsLineRead bytes left text = (table : Table) × IsSnapReadFrom bytes left table × (text ≡ check_text table)

-- the fault that was found in the snapshot, if one was
abbrev pub snap_fault_in : {X : Type 0} → Result X CheckFault → Option SnapFault
snap_fault_in (Err (Snap fault)) = Some fault
snap_fault_in r = None

-- The bytes were a snapshot and the line of its table, or a front of it, was written; or they were none.
abbrev pub Checks : {X : Type 0} → (bytes left old new : Option (List ℕ)) → Result X CheckFault → Type 0
Checks bytes left old new (Ok x) = (text : List ℕ) × IsLineRead bytes left text × Appends old new text
Checks bytes left old new (Err Write) = (text : List ℕ) × IsLineRead bytes left text × AppendsFront old new text
Checks bytes left old new (Err (Snap fault)) = IsFirstSnapFault bytes fault
