-- What the program tells of a fault: of what was read, why, and how many parts would do.
use Rattle.std.specs.Prelude.{◌≡◌, ◌⊎◌, ℕ, Bool, true, false, List, [], Option, Some, None, Result, Ok, Err, IfErr, if◌then◌else◌, nat_lt, option_map, slice_get}
use Rattle.rh_bytes.specs.declared.fault.WriteFault.{WriteFault}
use Rattle.rh_streams.specs.Finishing.{EndsBy}
use Rattle.rh_cli.specs.declared.status.ProgramFault.{ProgramFault}
use Rattle.rh_cli.specs.declared.status.ProgramFault.TheVariants as program
use Rattle.rh_cli.specs.declared.status.Status.{Status}
use Rattle.rh_cli.specs.declared.status.Status.TheVariants.{Done}
use Rattle.rh_snapshot.specs.declared.fault.SnapFault.{SnapFault}
use Rattle.rh_snapshot.specs.declared.fault.SnapFault.TheVariants as snap
use Rattle.rh_shelf.specs.declared.shelf.ShelfFault.{ShelfFault}
use Rattle.rh_key_texts.specs.declared.packing.PackFault.{PackFault}
use Rattle.rh_key_texts.specs.declared.packing.PackFault.TheVariants as pack
use Rattle.rh_key_texts.specs.declared.files.FaultAt.{FaultAt}
use Rattle.rh_key_texts.specs.declared.files.FileFault.{FileFault}
use Rattle.rh_key_texts.specs.declared.files.FileFault.TheVariants as file
use Rattle.rh_splitting.specs.Number.{parts_chosen}
use Rattle.rh_splitting.specs.Splitting.{unread}
use Rattle.rh_splitting.specs.declared.source.Source.{Source}
use Rattle.rh_splitting.specs.declared.fault.FilesFault.{FilesFault}
use Rattle.rh_splitting.specs.declared.fault.FilesFault.TheVariants as files
use Rattle.rh_splitting.specs.declared.fault.SplitFault.{SplitFault}
use Rattle.rh_splitting.specs.declared.fault.SplitFault.TheVariants as split
use Rattle.rh_keys_program.specs.Told.{IsFolderOrNone, TellsInput as TellsListRead, path_of}
use Rattle.rh_keys_program.specs.declared.fault.Fault.TheVariants as lists
use Rattle.rh_keys_program.specs.declared.fault.InputFault.{InputFault}
use Rattle.rh_keys_program.specs.declared.fault.InputFault.TheVariants as input
use Rattle.rh_keys_program.specs.declared.fault.Reason.{Reason}
use Rattle.rh_keys_program.specs.declared.fault.Reason.TheVariants.{Unknown}
use Rattle.rh_pack_program.specs.declared.fault.Fault.{Fault}
use Rattle.rh_pack_program.specs.declared.fault.Fault.TheVariants as fault

-- ---- what was read

-- a fault that any command may meet
abbrev pub of_program : ProgramFault → Fault
of_program f = fault.Lists (lists.Program f)

-- what is told of this fault of a text, or of a key file, that was read there
abbrev pub TellsInput : (path : Option (List ℕ)) → InputFault → Fault → Type 0
TellsInput path f (fault.Lists told) = TellsListRead path f told
TellsInput path f told = ⊥

-- what may be told of why a snapshot is refused: of one of which a read failed, whether it is a folder
abbrev pub ExplainsHeld : SnapFault → Reason → Type 0
ExplainsHeld snap.Read reason = IsFolderOrNone reason
ExplainsHeld f reason = reason ≡ Unknown

abbrev pub NamesHeld : (path : Option (List ℕ)) → SnapFault → Fault → Type 0
NamesHeld path f (fault.Held at g reason) = (path_of at ≡ path) × (g ≡ f) × ExplainsHeld f reason
NamesHeld path f told = ⊥

-- what is told of this fault of a snapshot that was read there
abbrev pub TellsHeld : (path : Option (List ℕ)) → SnapFault → Fault → Type 0
TellsHeld path snap.Memory told = told ≡ of_program program.Memory
TellsHeld path f told = NamesHeld path f told

-- what is told where it was not opened
abbrev pub TellsOpening : (path : Option (List ℕ)) → Result Status Fault → Type 0
TellsOpening path r = IfErr r (λ told. (f : ShelfFault) × TellsInput path (input.Open f) told)

-- how a command may end that reads there
abbrev pub EndsReading : {E : Type 0} → (Tells : E → Fault → Type 0) → (path : Option (List ℕ)) → Result Status Fault → Type 0
EndsReading Tells path r = EndsBy Tells of_program r ⊎ TellsOpening path r

-- ---- packing and listing

abbrev pub TellsPack : (path : Option (List ℕ)) → PackFault → Fault → Type 0
TellsPack path (pack.Text f) told = TellsInput path (input.Text f) told
TellsPack path pack.Write told = told ≡ of_program program.Write

-- of what was listed there
abbrev pub TellsFile : (path : Option (List ℕ)) → FileFault → Fault → Type 0
TellsFile path (file.Shelf f) told = TellsInput path (input.Open f) told
TellsFile path (file.Keys f) told = TellsInput path (input.Keys f) told
TellsFile path (file.Snap f) told = TellsHeld path f told
TellsFile path file.Write told = told ≡ of_program program.Write

-- the paths, where they were named
abbrev pub paths_named : (is_named : Bool) → List (List ℕ) → List (List ℕ)
paths_named true paths = paths
paths_named false paths = []

-- of the one of these files that has the fault, or of standard input where none is named
abbrev pub TellsFileAt : (paths : List (List ℕ)) → FaultAt → Fault → Type 0
TellsFileAt paths at told = TellsFile (slice_get paths at.index) at.fault told

-- ---- sizes and parts

-- as many parts as were asked for, or where that is 0 as the size of the input asks for
abbrev pub parts_of : Source → (asked : ℕ) → (size : Option ℕ) → Option ℕ
parts_of source asked size = if nat_lt 0 asked then Some asked else option_map (parts_chosen source) size

-- what is told of a part that is too full, of so many: how many parts the size of the input asks for, where that is more
abbrev pub fault_of_full : Source → (part parts : ℕ) → (size : Option ℕ) → Fault
fault_of_full source part parts None = fault.Part (files.Split (split.TooMany part))
fault_of_full source part parts (Some bytes) =
    if nat_lt parts (parts_chosen source bytes) then fault.TooFull part (parts_chosen source bytes) else fault.Part (files.Split (split.TooMany part))

-- what is told of a split into so many parts, of an input of this size
abbrev pub TellsSplit : Source → (parts : ℕ) → (size : Option ℕ) → (path : Option (List ℕ)) → FilesFault → Fault → Type 0
TellsSplit source parts size path (files.Split (split.Text f)) told = TellsInput path (input.Text f) told
TellsSplit source parts size path (files.Split (split.Keys f)) told = TellsInput path (input.Keys f) told
TellsSplit source parts size path (files.Split (split.TooMany part)) told = told ≡ fault_of_full source part parts size
TellsSplit source parts size path files.Memory told = told ≡ of_program program.Memory
TellsSplit source parts size path f told = told ≡ fault.Part f

-- the same, where as many parts are made as are asked for, or as the size asks for, whatever that is
abbrev pub MayTellSplit : Source → (asked : ℕ) → (path : Option (List ℕ)) → FilesFault → Fault → Type 0
MayTellSplit source asked path f told =
    (size : Option ℕ) × (parts : ℕ) × (parts_of source asked size ≡ Some parts) × TellsSplit source parts size path f told

-- what is told where the size is not known: that, or that nothing there can be read
abbrev pub TellsNoSize : Source → (path : Option (List ℕ)) → Fault → Type 0
TellsNoSize source path told = (told ≡ fault.Size) ⊎ TellsSplit source 0 None path (files.Split (unread source)) told

-- how a split may end of what was opened: done, by what was told of it, or because its size is not known, where that is asked for
abbrev pub EndsSplit : Source → (asked : ℕ) → (path : Option (List ℕ)) → Result Status Fault → Type 0
EndsSplit source asked path (Ok status) = status ≡ Done
EndsSplit source asked path (Err told) =
    ((f : FilesFault) × MayTellSplit source asked path f told) ⊎ ((asked ≡ 0) × TellsNoSize source path told)

abbrev pub EndsSplitting : Source → (asked : ℕ) → (path : Option (List ℕ)) → Result Status Fault → Type 0
EndsSplitting source asked path r = EndsSplit source asked path r ⊎ TellsOpening path r

-- The same of a plan: of its faults none is of a file of a part, and its writing may fail.
abbrev pub EndsPlan : Source → (asked : ℕ) → (path : Option (List ℕ)) → Result Status Fault → Type 0
EndsPlan source asked path (Ok status) = status ≡ Done
EndsPlan source asked path (Err told) =
    ((f : SplitFault) × MayTellSplit source asked path (files.Split f) told) ⊎ ((asked ≡ 0) × TellsNoSize source path told)
    ⊎ (told ≡ of_program program.Write) ⊎ (told ≡ of_program program.Memory)

abbrev pub EndsPlanning : Source → (asked : ℕ) → (path : Option (List ℕ)) → Result Status Fault → Type 0
EndsPlanning source asked path r = EndsPlan source asked path r ⊎ TellsOpening path r

-- what is told of a plan that was not written
abbrev pub TellsPlan : WriteFault → Fault → Type 0
TellsPlan f told = told ≡ of_program program.Write
