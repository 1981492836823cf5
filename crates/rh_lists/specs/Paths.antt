-- The lists of several paths, read one after the other.
use Rattle.std.specs.Prelude.{◌≡◌, ◌<◌, ◌+◌, ℕ, false, List, length, take, slice_get, Option, Some, Result, Ok, Err, IfErr, OnOk}
use Rattle.rh_bytes.specs.Counting.{Rose, failures_of, inner_of}
use Rattle.rh_bytes.specs.declared.counted.Counted.{Counted}
use Rattle.rh_shelf.specs.Shelf.{CountsReads, Files, ShelfState}
use Rattle.rh_lists.specs.Files.{BlamesAt, GiveEach, HasFault}
use Rattle.rh_lists.specs.declared.fault.CommandFault.{CommandFault}
use Rattle.rh_lists.specs.declared.fault.CommandFault.TheVariants as faults

-- Memory ran out behind a list that was read whole, and behind those before it.
abbrev pub ReadsSome : Option Files → (paths : List (List ℕ)) → (input left : Option (List ℕ)) → Type 0
ReadsSome files paths input left = (index : ℕ) × (lists : List (List ℕ)) × (index < length paths) × GiveEach files (take (index + 1) paths) input left lists

-- The lists of all paths were read, in pieces; or the first that has a fault is told by its place; or memory ran out behind one.
abbrev pub ReadsAll : {X : Type 0} → (X → List (List ℕ)) → Option Files → (paths : List (List ℕ)) → (input left : Option (List ℕ)) → Result X CommandFault → Type 0
ReadsAll view files paths input left (Ok x) = GiveEach files paths input left (view x)
ReadsAll view files paths input left (Err (faults.List index fault)) =
    (path : List ℕ) × (mid : Option (List ℕ)) × (lists : List (List ℕ)) × (slice_get paths index ≡ Some path)
    × GiveEach files (take index paths) input mid lists × HasFault files path mid left fault
ReadsAll view files paths input left (Err faults.Memory) = ReadsSome files paths input left
ReadsAll view files paths input left (Err faults.Write) = ⊥

-- What a command blames for its fault: the file at that place, or the device that failed. No failed read is told but of a list.
abbrev pub Blames : (old new : ShelfState) → (paths : List (List ℕ)) → (InputFailed WriterFailed : Type 0) → CommandFault → Type 0
Blames old new paths InputFailed WriterFailed (faults.List index fault) =
    (path : List ℕ) × (slice_get paths index ≡ Some path) × BlamesAt old new path InputFailed fault
Blames old new paths InputFailed WriterFailed faults.Write = WriterFailed × CountsReads false old new
Blames old new paths InputFailed WriterFailed faults.Memory = CountsReads false old new

-- the fault names one of so many lists, if it names one
abbrev pub IsInside : ℕ → CommandFault → Type 0
IsInside many (faults.List index fault) = index < many
IsInside many fault = Unit {0}

-- What is answered of the lists at these paths, which a shelf and the reader of the input give. Where all were read, nothing was counted
-- as failed. No file changes.
pub record AnswersPaths {X I : Type 0} (view : X → List (List ℕ)) (remaining : I → Option (List ℕ)) (old new : ShelfState) (paths : List (List ℕ)) (before after : Counted I) (r : Result X CommandFault) : Type 0 where
  pub read : ReadsAll view old.files paths (remaining (inner_of before)) (remaining (inner_of after)) r
  pub blamed : IfErr r (Blames old new paths (Rose (failures_of before) (failures_of after)) ⊥)
  pub fine : OnOk r (new ≡ old)
  pub input_fine : OnOk r (failures_of after ≡ failures_of before)
  pub same_files : new.files ≡ old.files
