-- What a list of numbers says: a text, or a key file of either version, of any length.
use Rattle.std.specs.Prelude.{◌≡◌, ◌⊎◌, ◌++◌, ℕ, ◌≤◌, Bool, true, false, List, [], length, Option, Some, None, Result, Ok, Err, IsErrOf, OnOk}
use Rattle.std.specs.Io.KnownBytes.{Consumes}
use Rattle.rh_bytes.specs.Counting.{Rose, failures_of, inner_of}
use Rattle.rh_bytes.specs.Input as input
use Rattle.rh_bytes.specs.Taking.{TakesAtMost}
use Rattle.rh_bytes.specs.declared.counted.Counted.{Counted}
use Rattle.rh_key_files.specs.declared.fault.KeyFault.{KeyFault}
use Rattle.rh_key_files.specs.declared.fault.KeyFault.TheVariants as faults
use Rattle.rh_key_files.specs.declared.version.Version.{Version}
use Rattle.rh_key_files.specs.Reading as files
use Rattle.rh_key_files.specs.Reading.{BeginsWithLongHeader, TakesGoodKeys, long_file_keys, long_header_at, version_at}
use Rattle.rh_numbers.specs.declared.fault.TextFault.{TextFault}
use Rattle.rh_numbers.specs.declared.fault.TextFault.TheVariants as texts
use Rattle.rh_numbers.specs.declared.limits.TheConstants.{MAX_BYTES}
use Rattle.rh_numbers.specs.Reading.{Said, SayOnly, text_said}
use Rattle.rh_lists.specs.declared.fault.ListFault.{ListFault}
use Rattle.rh_lists.specs.declared.fault.ListFault.TheVariants.{Text, Keys}
use Rattle.rh_cutting.specs.declared.list.KeyList.{KeyList}
use Rattle.rh_cutting.specs.Pieces.{keys_in}

-- ---- bytes

-- all keys of a text, or its first fault
abbrev pub of_text : Said → Result (List ℕ × List ℕ) ListFault
of_text (keys, None) = Ok (keys, [])
of_text (keys, Some fault) = Err (Text fault)

abbrev pub of_file : Result (List ℕ × List ℕ) KeyFault → Result (List ℕ × List ℕ) ListFault
of_file (Ok keys) = Ok keys
of_file (Err fault) = Err (Keys fault)

-- what begins with the magic of a version is a key file, and anything else a text
abbrev pub file_or_text : List ℕ → Result (Version × List ℕ) KeyFault → Result (List ℕ × List ℕ) ListFault
file_or_text bytes (Ok begun) = of_file (long_file_keys bytes)
file_or_text bytes (Err other) = of_text (text_said bytes)

-- the keys of a list in its order, and none of its bytes left; or its first fault
abbrev pub list_said : List ℕ → Result (List ℕ × List ℕ) ListFault
list_said bytes = file_or_text bytes (version_at bytes)

-- ---- a reader's bytes

-- A failed read and want of memory say nothing of the bytes, and a text that is too long may have any other fault too.
abbrev pub is_text_silent : TextFault → Bool
is_text_silent texts.Read = true
is_text_silent texts.Memory = true
is_text_silent texts.TooLong = true
is_text_silent fault = false

-- what may be told of bytes in memory: no failed read, and no end of what may be read
abbrev pub OfHeldBytes : TextFault → Type 0
OfHeldBytes texts.Read = ⊥
OfHeldBytes texts.TooLong = ⊥
OfHeldBytes fault = Unit {0}

abbrev pub is_list_silent : ListFault → Bool
is_list_silent (Text fault) = is_text_silent fault
is_list_silent (Keys fault) = files.is_silent fault

-- Where the bytes are known, they were read to the keys of the list that they are, and none is left; or this is their first fault.
abbrev pub ReadsKeyList : Option (List ℕ) → Option (List ℕ) → Result KeyList ListFault → Type 0
ReadsKeyList old new r = input.Reads is_list_silent old new list_said keys_in r

-- so many bytes or more, if they are known
abbrev pub HasBytes : ℕ → Option (List ℕ) → Type 0
HasBytes n None = Unit {0}
HasBytes n (Some bytes) = n ≤ length bytes

-- ---- a failed read behind good lines

-- Whatever comes behind these bytes of a text, they hold no fault.
abbrev pub HasNoFault : List ℕ → Type 0
HasNoFault bytes = (keys : List ℕ) × SayOnly bytes keys

-- A text begins so, and the bytes of it that were taken behind that hold no fault.
abbrev pub TakesNoFault : (begun : List ℕ) → (old new : Option (List ℕ)) → Type 0
TakesNoFault begun old new = (taken : List ℕ) × Consumes old new taken × HasNoFault (begun ++ taken)

-- The bytes of a text that were taken hold no fault. Before its fourth byte it is not known to be one.
abbrev pub TakesGoodLines : (old new : Option (List ℕ)) → Type 0
TakesGoodLines old new = TakesAtMost old new 3 ⊎ TakesNoFault [] old new

-- What is answered of the list that this reader gives: its keys, or its first fault. A failed read is told only where one failed,
-- behind good lines or keys; want of memory for a key file only behind a header and good keys; that a text is too long only of so many
-- bytes.
pub record AnswersList {R : Type 0} (remaining : R → Option (List ℕ)) (old new : Counted R) (r : Result KeyList ListFault) : Type 0 where
  pub known : ReadsKeyList (remaining (inner_of old)) (remaining (inner_of new)) r
  pub text_read : IsErrOf r (Text texts.Read) → Rose (failures_of old) (failures_of new)
  pub keys_read : IsErrOf r (Keys faults.Read) → Rose (failures_of old) (failures_of new)
  pub text_tested : IsErrOf r (Text texts.Read) → TakesGoodLines (remaining (inner_of old)) (remaining (inner_of new))
  pub keys_tested : IsErrOf r (Keys faults.Read) → TakesGoodKeys long_header_at (remaining (inner_of old)) (remaining (inner_of new))
  pub memory : IsErrOf r (Keys faults.Memory) → BeginsWithLongHeader (remaining (inner_of old))
  pub tested_too : IsErrOf r (Keys faults.Memory) → TakesGoodKeys long_header_at (remaining (inner_of old)) (remaining (inner_of new))
  pub long : IsErrOf r (Text texts.TooLong) → HasBytes MAX_BYTES (remaining (inner_of old))
  pub fine : OnOk r (failures_of new ≡ failures_of old)

-- The same keys, or the same fault, unless one of the two says nothing of the bytes.
abbrev pub Agree : Result KeyList ListFault → Result KeyList ListFault → Type 0
Agree (Ok first) (Ok second) = keys_in first ≡ keys_in second
Agree (Ok first) (Err fault) = is_list_silent fault ≡ true
Agree (Err fault) (Ok second) = is_list_silent fault ≡ true
Agree (Err fault) (Err other) = input.Unless (is_list_silent fault) (input.Unless (is_list_silent other) (fault ≡ other))
