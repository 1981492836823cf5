-- What a command on lists writes.
use Rattle.std.specs.Prelude.{◌≡◌, ◌⊎◌, ℕ, List, length, take, slice_get, Option, Some, Result, Ok, Err, IfErr, OnOk}
use Rattle.std.specs.Io.KnownBytes.{Appends}
use Rattle.rh_bytes.specs.Counting.{AppendsFront, CountsFault, Rose, Writes, failures_of, inner_of}
use Rattle.rh_bytes.specs.declared.counted.Counted.{Counted}
use Rattle.rh_combine.specs.declared.form.Form.{Form}
use Rattle.rh_combine.specs.declared.form.Form.TheVariants.{Lines, Count, Packed}
use Rattle.rh_combine_workers.specs.declared.fault.CombineFault.{CombineFault}
use Rattle.rh_combine_workers.specs.declared.fault.CombineFault.TheVariants as combines
use Rattle.rh_key_files.specs.KeyFile.{spelling}
use Rattle.rh_key_files.specs.declared.version.Version.TheVariants.{Second}
use Rattle.rh_numbers.specs.Writing.{number_line, text_of}
use Rattle.rh_shelf.specs.Shelf.{Files, ShelfState}
use Rattle.rh_lists.specs.Files.{GiveEach, HasFault}
use Rattle.rh_lists.specs.Paths.{Blames, ReadsSome}
use Rattle.rh_lists.specs.declared.fault.CommandFault.{CommandFault}
use Rattle.rh_lists.specs.declared.fault.CommandFault.TheVariants as faults

-- numbers as they are written: one a line, or how many they are, or as a key file
abbrev pub written : Form → List ℕ → List ℕ
written Lines numbers = text_of numbers
written Count numbers = number_line (length numbers)
written Packed numbers = spelling Second numbers

-- The paths gave lists, of which so much came, and this was written of it.
abbrev pub Combines : (List (List ℕ) → List ℕ) → Form → Option Files → (paths : List (List ℕ)) → (input left : Option (List ℕ)) → (List ℕ → Type 0) → Type 0
Combines answer form files paths input left Written =
    (lists : List (List ℕ)) × GiveEach files paths input left lists × Written (written form (answer lists))

-- Memory ran out: behind a list, and nothing was written; or behind all of them, and a front of it was.
abbrev pub StopsForMemory : (List (List ℕ) → List ℕ) → Form → Option Files → (paths : List (List ℕ)) → (input left old new : Option (List ℕ)) → Type 0
StopsForMemory answer form files paths input left old new = ((new ≡ old) × ReadsSome files paths input left) ⊎ Combines answer form files paths input left (AppendsFront old new)

-- What a command came to: all was written; or the first list that has a fault is told by its place, and nothing was written; or
-- memory or a write failed, and a front was written.
abbrev pub Ends : {X : Type 0} → (List (List ℕ) → List ℕ) → Form → Option Files → (paths : List (List ℕ)) → (input left old new : Option (List ℕ)) → Result X CommandFault → Type 0
Ends answer form files paths input left old new (Ok x) = Combines answer form files paths input left (Appends old new)
Ends answer form files paths input left old new (Err (faults.List index fault)) =
    (path : List ℕ) × (mid : Option (List ℕ)) × (lists : List (List ℕ)) × (slice_get paths index ≡ Some path)
    × GiveEach files (take index paths) input mid lists × HasFault files path mid left fault × (new ≡ old)
Ends answer form files paths input left old new (Err faults.Write) = Combines answer form files paths input left (AppendsFront old new)
Ends answer form files paths input left old new (Err faults.Memory) = StopsForMemory answer form files paths input left old new

-- the answer where all went well
abbrev pub went_well : Result (Unit {0}) CommandFault
went_well = Ok tt

-- This writer wrote the text, or, on a fault, a front of it; a failure is counted where a write failed, and else none.
pub record WritesText {X W : Type 0} (contents : W → Option (List ℕ)) (text : List ℕ) (old new : Counted W) (r : Result X CombineFault) : Type 0 where
  pub written : Writes (contents (inner_of old)) (contents (inner_of new)) text r
  pub counts : CountsFault combines.Write old new r

-- How a command ends that reads lists of a shelf and of the reader of the input, and writes: with a fault that a file or a device is to
-- blame for, or with nothing counted as failed. No file changes.
pub record EndsCommand {X I W : Type 0} (answer : List (List ℕ) → List ℕ) (form : Form) (paths : List (List ℕ)) (shelf shelf_then : ShelfState) (remaining : I → Option (List ℕ)) (input input_then : Counted I) (contents : W → Option (List ℕ)) (writer writer_then : Counted W)
    (r : Result X CommandFault) : Type 0 where
  pub ends : Ends answer form shelf.files paths (remaining (inner_of input)) (remaining (inner_of input_then)) (contents (inner_of writer)) (contents (inner_of writer_then)) r
  pub same_files : shelf_then.files ≡ shelf.files
  pub blamed : IfErr r (Blames shelf shelf_then paths (Rose (failures_of input) (failures_of input_then)) (Rose (failures_of writer) (failures_of writer_then)))
  pub fine : OnOk r (shelf_then ≡ shelf)
  pub input_fine : OnOk r (failures_of input_then ≡ failures_of input)
  pub writer_fine : OnOk r (failures_of writer_then ≡ failures_of writer)
