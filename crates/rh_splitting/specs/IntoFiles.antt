-- What comes of a list that is split into key files.
use Rattle.std.specs.Prelude.{◌≡◌, ◌⊎◌, ℕ, List, [], ◌∷◌, ◌++◌, length, Option, Result, Ok, Err}
use Rattle.std.specs.Io.KnownBytes.{Keeps}
use Rattle.rh_key_files.specs.Reading.{IsReadFrom}
use Rattle.rh_layout.specs.declared.limits.TheConstants.{MAX_KEYS}
use Rattle.rh_parts.specs.Parts.{in_part, part_of}
use Rattle.rh_splitting.specs.declared.fault.FilesFault.{FilesFault}
use Rattle.rh_splitting.specs.declared.fault.FilesFault.TheVariants as files
use Rattle.rh_splitting.specs.declared.fault.SplitFault.{SplitFault}
use Rattle.rh_splitting.specs.declared.fault.SplitFault.TheVariants.{Keys, Text, TooMany, Write}
use Rattle.rh_splitting.specs.declared.source.Source.{Source}
use Rattle.rh_splitting.specs.declared.source.Source.TheVariants as sources
use Rattle.rh_splitting.specs.Splitting.{IsFirstFault, IsListFrom, SayFirst, SayThen}

-- The list has these keys first. Those of a key file are given once it is read to its end.
abbrev pub HasFirst : Source → (bytes left : Option (List ℕ)) → List ℕ → Type 0
HasFirst sources.Text bytes left keys = SayFirst bytes keys
HasFirst sources.Keys bytes left keys = (more : List ℕ) × IsReadFrom bytes left (keys ++ more)

-- Why a list is not split into so many key files: its first fault, or its first key of which the part has a full key file, or one
-- whose write failed.
abbrev pub IsNotSplit : Source → (bytes left : Option (List ℕ)) → (count : ℕ) → SplitFault → Type 0
IsNotSplit source bytes left count (Text fault) = (source ≡ sources.Text) × (keys : List ℕ) × SayThen bytes left keys fault
IsNotSplit source bytes left count (Keys fault) = (source ≡ sources.Keys) × IsFirstFault bytes fault
IsNotSplit source bytes left count (TooMany part) =
    (front : List ℕ) × (key : ℕ) × HasFirst source bytes left (front ++ (key ∷ [])) × (part_of count key ≡ part) × (length (in_part count part front) ≡ MAX_KEYS)
IsNotSplit source bytes left count (Write part) =
    (front : List ℕ) × (key : ℕ) × HasFirst source bytes left (front ++ (key ∷ [])) × (part_of count key ≡ part)

-- The list was read to its end, or this is why it is not split. A part whose file cannot be written is told before a byte is read,
-- or once all were; that a file cannot be made, and want of memory for it, only before.
abbrev pub SplitsList : {X : Type 0} → Source → (bytes left : Option (List ℕ)) → (count : ℕ) → Result X FilesFault → Type 0
SplitsList source bytes left count (Ok x) = IsListFrom source bytes left
SplitsList source bytes left count (Err (files.Split fault)) = IsNotSplit source bytes left count fault
SplitsList source bytes left count (Err (files.Write part)) = Keeps bytes left ⊎ IsListFrom source bytes left
SplitsList source bytes left count (Err (files.Create part)) = Keeps bytes left
SplitsList source bytes left count (Err (files.TooManyOpen part)) = Keeps bytes left
SplitsList source bytes left count (Err (files.Left part)) = Keeps bytes left
SplitsList source bytes left count (Err files.Memory) = Keeps bytes left

-- what the splitting told, where any other fault is one of the files
abbrev pub told_of_list : {X : Type 0} → Result X FilesFault → Result (Unit {0}) SplitFault
told_of_list (Ok x) = Ok tt
told_of_list (Err (files.Split fault)) = Err fault
told_of_list (Err fault) = Ok tt

-- the fault is one of a file, or want of memory for it
abbrev pub IsOfFiles : FilesFault → Type 0
IsOfFiles (files.Split fault) = ⊥
IsOfFiles fault = Unit {0}

abbrev pub IsOfWriting : FilesFault → Type 0
IsOfWriting (files.Write part) = Unit {0}
IsOfWriting fault = ⊥
