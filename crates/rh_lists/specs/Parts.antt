-- A part of a text, read.
use Rattle.std.specs.Prelude.{◌≡◌, ℕ, ◌≤◌, Bool, List, [], ◌++◌, length, Option, Some, None, Result, Ok, Err, IsErrOf, IsFalse, IsOk, IsTrue, OnOk}
use Rattle.rh_bytes.specs.Counting.{Counts, inner_of}
use Rattle.rh_bytes.specs.declared.counted.Counted.{Counted}
use Rattle.rh_bytes.specs.Input.{Unless}
use Rattle.rh_numbers.specs.declared.chunk.ChunkEnd.{ChunkEnd}
use Rattle.rh_numbers.specs.declared.chunk.ChunkEnd.TheVariants.{Open, Bad}
use Rattle.rh_numbers.specs.declared.fault.TextFault.{TextFault}
use Rattle.rh_numbers.specs.declared.fault.TextFault.TheVariants as texts
use Rattle.rh_numbers.specs.declared.line_so_far.LineSoFar.{LineSoFar}
use Rattle.rh_numbers.specs.declared.line_so_far.LineSoFar.TheVariants.{Head, Start}
use Rattle.rh_numbers.specs.declared.limits.TheConstants.{MAX_BYTES}
use Rattle.rh_numbers.specs.Chunks.{EndsLine, ReadsTo, last_of}
use Rattle.rh_numbers.specs.Reading.{Said, text_said}
use Rattle.rh_cutting.specs.declared.list.KeyList.{KeyList}
use Rattle.rh_lists.specs.declared.part.ListPart.{ListPart}
use Rattle.rh_cutting.specs.Pieces.{keys_in}
use Rattle.rh_lists.specs.Lists.{HasBytes, HasNoFault, TakesNoFault, is_text_silent}

-- Where the line has said this so far, these bytes are read to the part, whatever stands before them and comes after them.
abbrev pub IsReadTo : LineSoFar → List ℕ → ListPart → Type 0
IsReadTo so_far bytes part = ReadsTo so_far bytes (keys_in part.keys) part.lines part.end

-- so a worker reads them: there are no more lines than bytes, and where these end a line the part does
pub record IsPartOf (so_far : LineSoFar) (bytes : List ℕ) (part : ListPart) : Type 0 where
  pub read : IsReadTo so_far bytes part
  pub lines : part.lines ≤ length bytes
  pub whole : last_of bytes ≡ 10 → EndsLine part.end

-- what the last line has said so far, where none is bad
abbrev pub said_last : ChunkEnd → LineSoFar
said_last (Open so_far) = so_far
said_last (Bad bad) = Start

abbrev pub end_of_part : ListPart → LineSoFar
end_of_part part = said_last part.end

-- no line of it is bad
abbrev pub IsOpen : ChunkEnd → Type 0
IsOpen (Open so_far) = Unit {0}
IsOpen (Bad bad) = ⊥

-- This is the first fault of what is said, unless it says nothing of it.
abbrev pub Refuses : Said → TextFault → Type 0
Refuses said fault = Unless (is_text_silent fault) (said.1 ≡ Some fault)

-- What a text says is told: its keys, or its first fault.
abbrev pub TellsText : Said → Result KeyList TextFault → Type 0
TellsText said (Ok keys) = said ≡ (keys_in keys, None)
TellsText said (Err fault) = Refuses said fault

-- Where the bytes are known, the text of these bytes and all of them is told; those of a text that is too long are many.
abbrev pub ReadsTextList : (begun : List ℕ) → Option (List ℕ) → Option (List ℕ) → Result KeyList TextFault → Type 0
ReadsTextList begun None new r = Unit {0}
ReadsTextList begun (Some bytes) new (Err fault) = Refuses (text_said (begun ++ bytes)) fault
ReadsTextList begun (Some bytes) None (Ok keys) = ⊥
ReadsTextList begun (Some bytes) (Some rest) (Ok keys) = (text_said (begun ++ bytes) ≡ (keys_in keys, None)) × (rest ≡ [])

-- What is answered of a text that begins so, and whose rest this reader gives. A failed read is told only where one failed, behind good
-- lines, and that a text is too long only of so many bytes.
pub record AnswersText {R : Type 0} (remaining : R → Option (List ℕ)) (begun : List ℕ) (old new : Counted R) (r : Result KeyList TextFault) : Type 0 where
  pub known : ReadsTextList begun (remaining (inner_of old)) (remaining (inner_of new)) r
  pub tested : IsErrOf r texts.Read → TakesNoFault begun (remaining (inner_of old)) (remaining (inner_of new))
  pub counts : Counts (IsErrOf r texts.Read) (IsOk r) old new
  pub long : IsErrOf r texts.TooLong → HasBytes MAX_BYTES (remaining (inner_of old))

-- What is answered of a text of which these bytes come last, behind the part: nothing comes behind them, or a read failed there.
pub record EndsText (text : ListPart) (last : List ℕ) (failed : Bool) (r : Result KeyList TextFault) : Type 0 where
  pub told : (before rest : List ℕ) → IsReadTo Head before text → (IsFalse failed → rest ≡ []) → TellsText (text_said ((before ++ last) ++ rest)) r
  pub tested : IsErrOf r texts.Read → (before : List ℕ) → IsReadTo Head before text → HasNoFault (before ++ last)
  pub read : IsErrOf r texts.Read → IsTrue failed
  pub not_long : IsErrOf r texts.TooLong → ⊥
  pub fine : OnOk r (IsFalse failed)
