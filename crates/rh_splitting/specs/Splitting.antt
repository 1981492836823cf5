-- What becomes of a list that is split.
use Rattle.std.specs.Prelude.{◌≡◌, ℕ, ◌≤◌, List, [], ◌∷◌, ◌++◌, length, Option, Some, None, Result, Ok, Err, IsErrOf}
use Rattle.std.specs.Io.KnownBytes.{Consumes}
use Rattle.rh_bytes.specs.Counting.{Counts, inner_of}
use Rattle.rh_bytes.specs.declared.counted.Counted.{Counted}
use Rattle.rh_key_files.specs.Limits as in_files
use Rattle.rh_key_files.specs.Limits.{TakesOfFile}
use Rattle.rh_key_files.specs.Reading as files
use Rattle.rh_key_files.specs.declared.fault.KeyFault.{KeyFault}
use Rattle.rh_key_files.specs.declared.fault.KeyFault.TheVariants as key_faults
use Rattle.rh_numbers.specs.Grammar.{IsText}
use Rattle.rh_numbers.specs.Reading.{SayOnly, TakesGood, TakesGoodParts, text_said}
use Rattle.rh_numbers.specs.declared.fault.TextFault.{TextFault}
use Rattle.rh_numbers.specs.declared.fault.TextFault.TheVariants as faults
use Rattle.rh_numbers.specs.declared.limits.TheConstants.{MAX_BYTES, PART_BYTES}
use Rattle.rh_parts.specs.Parts.{part_of}
use Rattle.rh_splitting.specs.declared.fault.SplitFault.{SplitFault}
use Rattle.rh_splitting.specs.declared.fault.SplitFault.TheVariants.{Keys, Text, TooMany, Write}
use Rattle.rh_splitting.specs.declared.part.Part.{Part}
use Rattle.rh_splitting.specs.declared.source.Source.{Source}
use Rattle.rh_splitting.specs.declared.source.Source.TheVariants as sources
use Rattle.rh_splitting.specs.Parts.{EachGot, EachGotButOne, IsFull}

-- A part of a list: these keys, this one, and others after it.
abbrev pub Stands : (keys front : List ℕ) (key : ℕ) → Type 0
Stands keys front key = (more : List ℕ) × (keys ≡ front ++ (key ∷ more))

-- Each part was given its keys; or those before the first key for which its part had no room, or whose write failed.
abbrev pub PutsKeys : {W X : Type 0} (contents : W → Option (List ℕ)) (old new : List (Part W)) (keys : List ℕ) → Result X SplitFault → Type 0
PutsKeys contents old new keys (Ok x) = EachGot contents old new keys
PutsKeys contents old new keys (Err (TooMany part)) =
    (front : List ℕ) × (key : ℕ) × Stands keys front key × (part_of (length old) key ≡ part) × EachGot contents old new front × IsFull new part
PutsKeys contents old new keys (Err (Write part)) =
    (front : List ℕ) × (key : ℕ) × Stands keys front key × (part_of (length old) key ≡ part) × EachGotButOne contents old new front key part
PutsKeys contents old new keys (Err (Text fault)) = ⊥
PutsKeys contents old new keys (Err (Keys fault)) = ⊥

-- ---- a text

-- Known bytes are a text of these keys, however many, and none is left.
abbrev pub IsTextFrom : Option (List ℕ) → Option (List ℕ) → List ℕ → Type 0
IsTextFrom None left keys = Unit {0}
IsTextFrom (Some bytes) None keys = ⊥
IsTextFrom (Some bytes) (Some rest) keys = IsText bytes keys × (rest ≡ [])

-- Known bytes say these keys first.
abbrev pub SayFirst : Option (List ℕ) → List ℕ → Type 0
SayFirst None keys = Unit {0}
SayFirst (Some bytes) keys = (more : List ℕ) × ((text_said bytes).0 ≡ keys ++ more)

-- Known bytes say these keys, and then comes this fault. Before a failed read, and before want of memory, which comes between two
-- parts, the keys are those of the bytes that were taken.
abbrev pub SayThen : (bytes left : Option (List ℕ)) → List ℕ → TextFault → Type 0
SayThen None left keys fault = Unit {0}
SayThen (Some bytes) left keys faults.Read = TakesGood (Some bytes) left keys
SayThen (Some bytes) left keys faults.Memory = TakesGoodParts (Some bytes) left keys
SayThen (Some bytes) left keys faults.TooLong = (MAX_BYTES ≤ length bytes) × SayFirst (Some bytes) keys
SayThen (Some bytes) left keys faults.TooMany = ⊥
SayThen (Some bytes) left keys fault = text_said bytes ≡ (keys, Some fault)

-- The bytes were a text of keys, and each part was given its keys; or the first fault of the text, which comes after those that
-- the parts were given, or the first key that its part did not take.
abbrev pub Splits : {W X : Type 0} (bytes left : Option (List ℕ)) (contents : W → Option (List ℕ)) (old new : List (Part W)) → Result X SplitFault → Type 0
Splits bytes left contents old new (Ok x) = (keys : List ℕ) × IsTextFrom bytes left keys × EachGot contents old new keys
Splits bytes left contents old new (Err (Text fault)) = (keys : List ℕ) × SayThen bytes left keys fault × EachGot contents old new keys
Splits bytes left contents old new (Err (TooMany part)) =
    (front : List ℕ) × (key : ℕ) × SayFirst bytes (front ++ (key ∷ [])) × (part_of (length old) key ≡ part) × EachGot contents old new front × IsFull new part
Splits bytes left contents old new (Err (Write part)) =
    (front : List ℕ) × (key : ℕ) × SayFirst bytes (front ++ (key ∷ [])) × (part_of (length old) key ≡ part) × EachGotButOne contents old new front key part
Splits bytes left contents old new (Err (Keys fault)) = ⊥

-- What a call tells says that no read failed. A bad line, a part that is full and a failed write do not: they may come before a
-- failed read.
abbrev pub NoReadFailed : {X : Type 0} → Result X SplitFault → Type 0
NoReadFailed (Ok x) = Unit {0}
NoReadFailed (Err (Text faults.Memory)) = Unit {0}
NoReadFailed (Err (Text faults.TooLong)) = Unit {0}
NoReadFailed (Err fault) = ⊥

-- Of the bytes that were taken those before the last part of them hold no fault.
pub record TakesText (old new : Option (List ℕ)) : Type 0 where
  pub before : List ℕ
  pub last : List ℕ
  pub taken : Consumes old new (before ++ last)
  pub short : length last ≤ PART_BYTES
  pub keys : List ℕ
  pub no_fault : SayOnly before keys

-- ---- a key file

-- Known bytes are no key file, and this is the first fault in them.
abbrev pub IsFirstFault : Option (List ℕ) → KeyFault → Type 0
IsFirstFault None fault = Unit {0}
IsFirstFault (Some bytes) fault = files.KeysFail {X = List ℕ × List ℕ} fault (files.file_keys bytes)

-- The bytes were a key file, and its keys were given to their parts; or they were none, and no part was given any.
abbrev pub SplitsFile : {W X : Type 0} (bytes left : Option (List ℕ)) (contents : W → Option (List ℕ)) (old new : List (Part W)) → Result X SplitFault → Type 0
SplitsFile bytes left contents old new (Err (Keys fault)) = IsFirstFault bytes fault × (new ≡ old)
SplitsFile bytes left contents old new r = (keys : List ℕ) × files.IsReadFrom bytes left keys × PutsKeys contents old new keys r

-- the fault that was found in the key file, if one was
abbrev pub fault_in_file : {X : Type 0} → Result X SplitFault → Option KeyFault
fault_in_file (Err (Keys fault)) = Some fault
fault_in_file r = None

-- ---- either of them

abbrev pub SplitsSource : {W X : Type 0} → Source → (bytes left : Option (List ℕ)) (contents : W → Option (List ℕ)) (old new : List (Part W)) → Result X SplitFault → Type 0
SplitsSource sources.Text bytes left contents old new r = Splits bytes left contents old new r
SplitsSource sources.Keys bytes left contents old new r = SplitsFile bytes left contents old new r

-- The reader was read to its end, and gave a whole list.
abbrev pub IsListFrom : Source → (bytes left : Option (List ℕ)) → Type 0
IsListFrom sources.Text bytes left = (keys : List ℕ) × IsTextFrom bytes left keys
IsListFrom sources.Keys bytes left = (keys : List ℕ) × files.IsReadFrom bytes left keys

-- How much of the reader is taken: of a text no more than a part behind what holds no fault, and of a key file no more than what
-- its fault rests on.
abbrev pub TakesOfSource : {X : Type 0} → Source → (bytes left : Option (List ℕ)) → Result X SplitFault → Type 0
TakesOfSource sources.Text bytes left r = TakesText bytes left
TakesOfSource sources.Keys bytes left r = TakesOfFile bytes left (fault_in_file r)

abbrev pub NoReadFailedOf : {X : Type 0} → Source → Result X SplitFault → Type 0
NoReadFailedOf sources.Text r = NoReadFailed r
NoReadFailedOf sources.Keys r = in_files.NoKeyReadFailed (fault_in_file r)

-- the fault of an input that cannot be read
abbrev pub unread : Source → SplitFault
unread sources.Text = Text faults.Read
unread sources.Keys = Keys key_faults.Read

-- What is taken of its reader, and what is told of that. A failed read is told only where one was counted, and none was counted where
-- the call tells so. Of a key file a failed read comes behind good keys, and want of memory behind a header. A text never has too many
-- keys.
pub record ReadsSource {R X : Type 0} (remaining : R → Option (List ℕ)) (source : Source) (old new : Counted R) (r : Result X SplitFault) : Type 0 where
  pub takes : TakesOfSource source (remaining (inner_of old)) (remaining (inner_of new)) r
  pub counts : Counts (IsErrOf r (unread source)) (NoReadFailedOf source r) old new
  pub tested : IsErrOf r (Keys key_faults.Read) → files.TakesGoodKeys files.header_at (remaining (inner_of old)) (remaining (inner_of new))
  pub memory : IsErrOf r (Keys key_faults.Memory) → files.BeginsWithHeader (remaining (inner_of old))
  pub not_too_many : IsErrOf r (Text faults.TooMany) → ⊥
