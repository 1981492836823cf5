-- What is found in a list: a text of numbers, or a key file of either version, of any length.
use Rattle.std.specs.Prelude.{◌≡◌, ◌++◌, ℕ, true, List, [], map, Option, Some, None, Result, Ok, Err, IfErr, IsErrOf, IsOk, OnOk}
use Rattle.rh_bytes.specs.Counting.{Counts, Rose, failures_of, inner_of}
use Rattle.rh_bytes.specs.Input.{Reads}
use Rattle.rh_bytes.specs.declared.counted.Counted.{Counted}
use Rattle.rh_key_files.specs.declared.fault.KeyFault.{KeyFault}
use Rattle.rh_key_files.specs.declared.fault.KeyFault.TheVariants as faults
use Rattle.rh_key_files.specs.declared.version.Version.{Version}
use Rattle.rh_key_files.specs.Reading.{long_file_keys, version_at}
use Rattle.rh_numbers.specs.declared.fault.TextFault.{TextFault}
use Rattle.rh_numbers.specs.declared.fault.TextFault.TheVariants as texts
use Rattle.rh_numbers.specs.declared.limits.TheConstants.{MAX_BYTES}
use Rattle.rh_lists.specs.declared.fault.ListFault.{ListFault}
use Rattle.rh_lists.specs.declared.fault.ListFault.TheVariants.{Text, Keys}
use Rattle.rh_lists.specs.Lists.{HasBytes, is_list_silent, is_text_silent}
use Rattle.rh_cutting.specs.Pieces.{keys_in}
use Rattle.rh_checks.specs.declared.found.Found.{Found}
use Rattle.rh_checks.specs.Lines.{Findings, findings, text_findings}
use Rattle.rh_checks.specs.Walk.{shown_as}

-- ---- bytes

-- of a key file its keys, and no line is bad; or its first fault
abbrev pub found_in_file : Result (List ℕ × List ℕ) KeyFault → Result (Findings × List ℕ) ListFault
found_in_file (Ok keys) = Ok (findings keys.0 [], keys.1)
found_in_file (Err fault) = Err (Keys fault)

-- what begins with the magic of a version is a key file, and anything else a text
abbrev pub found_by_head : List ℕ → Result (Version × List ℕ) KeyFault → Result (Findings × List ℕ) ListFault
found_by_head bytes (Ok begun) = found_in_file (long_file_keys bytes)
found_by_head bytes (Err other) = Ok (text_findings bytes, [])

-- what is in a list, and none of its bytes left; or why it is no key file
abbrev pub list_findings : List ℕ → Result (Findings × List ℕ) ListFault
list_findings bytes = found_by_head bytes (version_at bytes)

-- ---- in the code

abbrev pub findings_in : Found → Findings
findings_in found = record { numbers = keys_in found.keys; shown = map shown_as found.bad.items; more = found.more }

-- Where the bytes are known, what was found is in the text of these bytes and all of them, and none is left.
abbrev pub FindsText : (begun : List ℕ) → Option (List ℕ) → Option (List ℕ) → Result Found TextFault → Type 0
FindsText begun None new r = Unit {0}
FindsText begun (Some bytes) new (Err fault) = Unit {0}
FindsText begun (Some bytes) None (Ok found) = ⊥
FindsText begun (Some bytes) (Some rest) (Ok found) = (findings_in found ≡ text_findings (begun ++ bytes)) × (rest ≡ [])

-- What is answered of a text that begins so, and whose rest this reader gives. No bad line is a fault: only a failed read is one, want of
-- memory, and a text of too many bytes.
pub record AnswersWalk {R : Type 0} (remaining : R → Option (List ℕ)) (begun : List ℕ) (old new : Counted R) (r : Result Found TextFault) : Type 0 where
  pub known : FindsText begun (remaining (inner_of old)) (remaining (inner_of new)) r
  pub silent : IfErr r (λ fault. is_text_silent fault ≡ true)
  pub counts : Counts (IsErrOf r texts.Read) (IsOk r) old new
  pub long : IsErrOf r texts.TooLong → HasBytes MAX_BYTES (remaining (inner_of old))

-- What is answered of the list that this reader gives: what is in it, or the first fault of a key file. A failed read is told only where
-- one failed, and that a text is too long only of so many bytes.
pub record AnswersFound {R : Type 0} (remaining : R → Option (List ℕ)) (old new : Counted R) (r : Result Found ListFault) : Type 0 where
  pub known : Reads is_list_silent (remaining (inner_of old)) (remaining (inner_of new)) list_findings findings_in r
  pub text_read : IsErrOf r (Text texts.Read) → Rose (failures_of old) (failures_of new)
  pub keys_read : IsErrOf r (Keys faults.Read) → Rose (failures_of old) (failures_of new)
  pub long : IsErrOf r (Text texts.TooLong) → HasBytes MAX_BYTES (remaining (inner_of old))
  pub fine : OnOk r (failures_of new ≡ failures_of old)
