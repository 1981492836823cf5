-- What is answered of a list that is checked.
use Rattle.std.specs.Prelude.{◌≡◌, ◌↔◌, ℕ, Bool, IsTrue, List, [], map, Option, Some, None, Result, Ok, Err, IsErrOf, OnOk}
use Rattle.std.specs.Io.KnownBytes.{Appends}
use Rattle.rh_bytes.specs.Counting.{AppendsFront, CountsFault, Rose, failures_of, inner_of}
use Rattle.rh_bytes.specs.Input.{Fails}
use Rattle.rh_bytes.specs.declared.counted.Counted.{Counted}
use Rattle.rh_key_files.specs.declared.fault.KeyFault.TheVariants as faults
use Rattle.rh_lists.specs.declared.fault.ListFault.{ListFault}
use Rattle.rh_lists.specs.declared.fault.ListFault.TheVariants.{Text, Keys}
use Rattle.rh_lists.specs.Lists.{HasBytes, is_list_silent}
use Rattle.rh_numbers.specs.declared.fault.TextFault.TheVariants as texts
use Rattle.rh_numbers.specs.declared.limits.TheConstants.{MAX_BYTES}
use Rattle.rh_checks.specs.declared.fault.CheckFault.{CheckFault}
use Rattle.rh_checks.specs.declared.fault.CheckFault.TheVariants as checks
use Rattle.rh_checks.specs.declared.report.Report.{Report}
use Rattle.rh_checks.specs.Lines.{Findings}
use Rattle.rh_checks.specs.Lists.{list_findings}
use Rattle.rh_checks.specs.Sums.{AreSums}
use Rattle.rh_checks.specs.Texts.{report_text}
use Rattle.rh_checks.specs.Walk.{shown_as}

-- the report is of this
pub record IsReportOf (t : Findings) (report : Report) : Type 0 where
  pub shown : map shown_as report.bad.items ≡ t.shown
  pub more : report.more ≡ t.more
  pub sums : AreSums t.numbers report.sums

-- Where the bytes are known, the report is of what is in them, and none is left; or this is the first fault of a key file. A failed read,
-- want of memory and a text of too many bytes say nothing of the bytes.
abbrev pub ChecksList : Option (List ℕ) → Option (List ℕ) → Result Report ListFault → Type 0
ChecksList None new r = Unit {0}
ChecksList (Some bytes) new (Err fault) = Fails is_list_silent fault (list_findings bytes)
ChecksList (Some bytes) None (Ok report) = ⊥
ChecksList (Some bytes) (Some rest) (Ok report) = (t : Findings) × (list_findings bytes ≡ Ok (t, rest)) × IsReportOf t report

-- What is answered of the list that this reader gives. A failed read is told only where one failed, and that a text is too long only of so
-- many bytes.
pub record AnswersCheck {R : Type 0} (remaining : R → Option (List ℕ)) (old new : Counted R) (r : Result Report ListFault) : Type 0 where
  pub known : ChecksList (remaining (inner_of old)) (remaining (inner_of new)) r
  pub text_read : IsErrOf r (Text texts.Read) → Rose (failures_of old) (failures_of new)
  pub keys_read : IsErrOf r (Keys faults.Read) → Rose (failures_of old) (failures_of new)
  pub long : IsErrOf r (Text texts.TooLong) → HasBytes MAX_BYTES (remaining (inner_of old))
  pub fine : OnOk r (failures_of new ≡ failures_of old)

-- ---- and told

-- there is a report of the bytes, of which so much was written
abbrev pub WritesReport : (place : List ℕ) → (bytes left : Option (List ℕ)) → (Report → List ℕ → Type 0) → Type 0
WritesReport place bytes left Written = (report : Report) × ChecksList bytes left (Ok report) × Written report (report_text place report)

-- The report was written, or a front of it; or the list has this fault, or memory was wanting, and nothing was written.
abbrev pub TellsReport : (place : List ℕ) → (bytes left old new : Option (List ℕ)) → Result Bool CheckFault → Type 0
TellsReport place bytes left old new (Ok good) = WritesReport place bytes left (λ report text. Appends old new text × (IsTrue good ↔ (report.bad.items ≡ [])))
TellsReport place bytes left old new (Err (checks.List fault)) = ChecksList bytes left (Err fault) × (new ≡ old)
TellsReport place bytes left old new (Err checks.Write) = WritesReport place bytes left (λ report text. AppendsFront old new text)
TellsReport place bytes left old new (Err checks.Memory) = new ≡ old

-- So by this reader and this writer, of which a failure is counted where a write failed, and else none.
pub record TellsCheck {R W : Type 0} (place : List ℕ) (remaining : R → Option (List ℕ)) (reader reader_then : Counted R) (contents : W → Option (List ℕ)) (writer writer_then : Counted W) (r : Result Bool CheckFault) : Type 0 where
  pub told : TellsReport place (remaining (inner_of reader)) (remaining (inner_of reader_then)) (contents (inner_of writer)) (contents (inner_of writer_then)) r
  pub counts : CountsFault checks.Write writer writer_then r
  pub text_read : IsErrOf r (checks.List (Text texts.Read)) → Rose (failures_of reader) (failures_of reader_then)
  pub keys_read : IsErrOf r (checks.List (Keys faults.Read)) → Rose (failures_of reader) (failures_of reader_then)
  pub long : IsErrOf r (checks.List (Text texts.TooLong)) → HasBytes MAX_BYTES (remaining (inner_of reader))
