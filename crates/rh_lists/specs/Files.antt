-- The lists that a command reads: what their bytes say, and the first fault in them.
use Rattle.std.specs.Prelude.{◌≡◌, ◌⊎◌, ℕ, Bool, true, false, List, [], ◌∷◌, codes, Option, Some, None, option_map, Result, Ok, Err, IfErr, MatchResult, OnOk}
use Rattle.std.specs.Str.{bytes_eq}
use Rattle.rh_bytes.specs.Counting.{Rose, failures_of, inner_of}
use Rattle.rh_bytes.specs.Input.{Unless}
use Rattle.rh_bytes.specs.declared.counted.Counted.{Counted}
use Rattle.rh_key_files.specs.declared.fault.KeyFault.TheVariants as keys
use Rattle.rh_numbers.specs.declared.fault.TextFault.TheVariants as texts
use Rattle.rh_numbers.specs.declared.limits.TheConstants.{MAX_BYTES}
use Rattle.rh_shelf.specs.Shelf.{CountsReads, Files, Finds, Lacks, ShelfState}
use Rattle.rh_shelf.specs.declared.shelf.ShelfFault.{ShelfFault}
use Rattle.rh_shelf.specs.declared.shelf.ShelfFault.TheVariants.{Missing, Memory, Write}
use Rattle.rh_key_files.specs.Reading.{BeginsWithLongHeader, TakesGoodKeys, long_header_at}
use Rattle.rh_cutting.specs.Pieces.{keys_in}
use Rattle.rh_lists.specs.Lists.{HasBytes, TakesGoodLines, is_list_silent, list_said}
use Rattle.rh_lists.specs.Blanks.{skipping}
use Rattle.rh_lists.specs.declared.fault.ListFault.{ListFault}
use Rattle.rh_lists.specs.declared.fault.ListFault.TheVariants.{Text, Keys}
use Rattle.rh_cutting.specs.declared.list.KeyList.{KeyList}
use Rattle.rh_lists.specs.declared.fault.FileFault.{FileFault}
use Rattle.rh_lists.specs.declared.fault.FileFault.TheVariants.{Shelf, List as InList}

-- the path that stands for standard input
abbrev pub is_input : List ℕ → Bool
is_input path = bytes_eq path (codes "-")

-- the files, of which so many lines of each text are passed by
abbrev pub without_heads : (skip : ℕ) → Files → Files
without_heads skip files path = option_map (skipping skip) (files path)

-- a shelf of whose texts so many lines are passed by
abbrev pub seen : (skip : ℕ) → ShelfState → ShelfState
seen skip shelf = record { files = option_map (without_heads skip) shelf.files; failures = shelf.failures; failed_reads = shelf.failed_reads }

-- The bytes, where they are known, are a list of these numbers, and what `list_said` leaves of them is left: nothing.
abbrev pub AreNumbers : (bytes left : Option (List ℕ)) → List ℕ → Type 0
AreNumbers None left numbers = Unit {0}
AreNumbers (Some bytes) None numbers = ⊥
AreNumbers (Some bytes) (Some rest) numbers = list_said bytes ≡ Ok (numbers, rest)

-- the file at the path holds these numbers
abbrev pub HoldsFile : Option Files → (path numbers : List ℕ) → Type 0
HoldsFile files path numbers = (bytes : Option (List ℕ)) × (left : Option (List ℕ)) × Finds files path bytes × AreNumbers bytes left numbers

-- The path, which stands for the input or for a file, gave these numbers; this was left of the input.
abbrev pub GivesBy : (input : Bool) → Option Files → (path : List ℕ) → (old new : Option (List ℕ)) → List ℕ → Type 0
GivesBy true files path old new numbers = AreNumbers old new numbers
GivesBy false files path old new numbers = HoldsFile files path numbers × (new ≡ old)

abbrev pub GivesNumbers : Option Files → (path : List ℕ) → (old new : Option (List ℕ)) → List ℕ → Type 0
GivesNumbers files path old new numbers = GivesBy (is_input path) files path old new numbers

-- the paths gave these lists, one after the other
abbrev pub GiveEach : Option Files → (paths : List (List ℕ)) → (old new : Option (List ℕ)) → (lists : List (List ℕ)) → Type 0
GiveEach files [] old new [] = new ≡ old
GiveEach files (path ∷ paths) old new (numbers ∷ lists) = (mid : Option (List ℕ)) × GivesNumbers files path old mid numbers × GiveEach files paths mid new lists
GiveEach files paths old new lists = ⊥

-- the bytes, where they are known, are no list, and this is the first fault in them
abbrev pub IsFirstFault : (bytes : Option (List ℕ)) → ListFault → Type 0
IsFirstFault None fault = Unit {0}
IsFirstFault (Some bytes) fault = Unless (is_list_silent fault) (list_said bytes ≡ Err fault)

-- The first fault in the bytes. A text is too long only where it has so many, and want of memory for a key file comes only behind a
-- header that can be read.
pub record IsFaultOf (bytes : Option (List ℕ)) (fault : ListFault) : Type 0 where
  pub first : IsFirstFault bytes fault
  pub long : fault ≡ Text texts.TooLong → HasBytes MAX_BYTES bytes
  pub memory : fault ≡ Keys keys.Memory → BeginsWithLongHeader bytes

-- Of the bytes that were taken before a failed read no line is bad, and behind a header no key is out of range; nor is one before want
-- of memory for a key file.
pub record IsBehindGood (old new : Option (List ℕ)) (fault : ListFault) : Type 0 where
  pub line : fault ≡ Text texts.Read → TakesGoodLines old new
  pub key : fault ≡ Keys keys.Read → TakesGoodKeys long_header_at old new
  pub memory : fault ≡ Keys keys.Memory → TakesGoodKeys long_header_at old new

-- The path, which stands for the input or for a file, has this fault; this was left of the input. Of a file that was not opened
-- `BlamesAt` tells why.
abbrev pub HasFaultBy : (input : Bool) → Option Files → (path : List ℕ) → (old new : Option (List ℕ)) → FileFault → Type 0
HasFaultBy true files path old new (InList fault) = IsFaultOf old fault × IsBehindGood old new fault
HasFaultBy true files path old new (Shelf fault) = ⊥
HasFaultBy false files path old new (InList fault) = ((bytes : Option (List ℕ)) × Finds files path bytes × IsFaultOf bytes fault) × (new ≡ old)
HasFaultBy false files path old new (Shelf fault) = new ≡ old

abbrev pub HasFault : Option Files → (path : List ℕ) → (old new : Option (List ℕ)) → FileFault → Type 0
HasFault files path old new fault = HasFaultBy (is_input path) files path old new fault

-- ---- which device failed

-- A file was not opened: there is none, or the shelf failed.
abbrev pub BlamesShelf : Option Files → (path : List ℕ) → (ShelfFailed : Type 0) → ShelfFault → Type 0
BlamesShelf files path ShelfFailed Missing = Lacks files path ⊎ ShelfFailed
BlamesShelf files path ShelfFailed Memory = ShelfFailed
BlamesShelf files path ShelfFailed Write = ⊥

-- the fault tells a failed read
abbrev pub tells_failed_read : ListFault → Bool
tells_failed_read (Text texts.Read) = true
tells_failed_read (Keys keys.Read) = true
tells_failed_read fault = false

-- A failed read is told of the input only where one of it failed, and of a file only where the shelf counts one more. With any other
-- fault, and of the input, it counts as many as before.
abbrev pub BlamesBy : (input : Bool) → (old new : ShelfState) → (path : List ℕ) → (InputFailed : Type 0) → FileFault → Type 0
BlamesBy true old new path InputFailed (InList fault) = (tells_failed_read fault ≡ true → InputFailed) × CountsReads false old new
BlamesBy true old new path InputFailed (Shelf fault) = ⊥
BlamesBy false old new path InputFailed (InList fault) = CountsReads (tells_failed_read fault) old new
BlamesBy false old new path InputFailed (Shelf fault) = BlamesShelf old.files path (Rose old.failures new.failures) fault × CountsReads false old new

abbrev pub BlamesAt : (old new : ShelfState) → (path : List ℕ) → (InputFailed : Type 0) → FileFault → Type 0
BlamesAt old new path InputFailed fault = BlamesBy (is_input path) old new path InputFailed fault

-- ---- the list of a file, read

abbrev pub IsReadAt : Option Files → (path : List ℕ) → Result KeyList FileFault → Type 0
IsReadAt files path (Ok list) = HoldsFile files path (keys_in list)
IsReadAt files path (Err (InList fault)) = (bytes : Option (List ℕ)) × Finds files path bytes × IsFaultOf bytes fault
IsReadAt files path (Err (Shelf fault)) = Unit {0}

-- What is answered of the file at the path. A failed read is counted by the shelf, and nothing else is, and no file changes.
pub record AnswersFile (old new : ShelfState) (path : List ℕ) (r : Result KeyList FileFault) : Type 0 where
  pub read : IsReadAt old.files path r
  pub blamed : IfErr r (BlamesBy false old new path ⊥)
  pub fine : OnOk r (new ≡ old)
  pub same_files : new.files ≡ old.files

-- The same of a path, which may stand for the input that this reader gives.
pub record AnswersPath {I : Type 0} (remaining : I → Option (List ℕ)) (old new : ShelfState) (path : List ℕ) (before after : Counted I) (r : Result KeyList FileFault) : Type 0 where
  pub read : MatchResult r (λ list. GivesNumbers old.files path (remaining (inner_of before)) (remaining (inner_of after)) (keys_in list)) (HasFault old.files path (remaining (inner_of before)) (remaining (inner_of after)))
  pub blamed : IfErr r (BlamesAt old new path (Rose (failures_of before) (failures_of after)))
  pub fine : OnOk r (new ≡ old)
  pub input_fine : OnOk r (failures_of after ≡ failures_of before)
  pub same_files : new.files ≡ old.files
