-- A text that is read in chunks, cut at any byte: what passes from one to the next is what the line has said so far.
use Rattle.std.specs.Prelude.{◌≡◌, ℕ, ◌+◌, ◌-◌, ◌==◌, if◌then◌else◌, List, [], ◌∷◌, ◌++◌, length, slice_index, Option, Some, None, Result, Ok, Err}
use Rattle.rh_numbers.specs.declared.chunk.ChunkEnd.{ChunkEnd}
use Rattle.rh_numbers.specs.declared.chunk.ChunkEnd.TheVariants.{Open, Bad}
use Rattle.rh_numbers.specs.declared.fault.TextFault.{TextFault}
use Rattle.rh_numbers.specs.declared.fault.TextFault.TheVariants as faults
use Rattle.rh_numbers.specs.declared.fault.TextFault.TheVariants.{NotAKey, OutOfRange, TooMany, TooLong}
use Rattle.rh_numbers.specs.declared.line_so_far.BadLine.{BadLine}
use Rattle.rh_numbers.specs.declared.line_so_far.BadLine.TheVariants as lines
use Rattle.rh_numbers.specs.declared.line_so_far.LineSoFar.{LineSoFar}
use Rattle.rh_numbers.specs.declared.line_so_far.LineSoFar.TheVariants.{Start}
use Rattle.rh_numbers.specs.Reading.{Said, said_from}

-- the fault of a text whose line with this number is bad
abbrev pub in_line : ℕ → BadLine → TextFault
in_line line lines.NotAKey = NotAKey line
in_line line lines.OutOfRange = OutOfRange line

-- what is said with a line behind these keys that ends and says this
abbrev pub ended : (keys : List ℕ) (line : ℕ) → Result (Option ℕ) BadLine → Said
ended keys line (Ok None) = (keys, None)
ended keys line (Ok (Some key)) = (keys ++ key ∷ [], None)
ended keys line (Err bad) = (keys, Some (in_line line bad))

-- what is said by these keys, and this line, if it is bad
abbrev pub told : (keys : List ℕ) (line : ℕ) → Option BadLine → Said
told keys line None = (keys, None)
told keys line (Some bad) = (keys, Some (in_line line bad))

-- what is said with the bytes behind a chunk that ends so in this line, where these keys were said by then
abbrev pub goes_on : (keys : List ℕ) (line : ℕ) → ChunkEnd → (rest : List ℕ) → Said
goes_on keys line (Open so_far) rest = said_from keys line so_far rest
goes_on keys line (Bad bad) rest = (keys, Some (in_line line bad))

-- Where the line has said this so far, these bytes say these keys, pass so many lines and end so, whatever stands before them and
-- comes after them.
abbrev pub ReadsTo : LineSoFar → (text keys : List ℕ) (lines : ℕ) → ChunkEnd → Type 0
ReadsTo so_far text keys lines end =
    (front : List ℕ) (line : ℕ) (rest : List ℕ) → said_from front line so_far (text ++ rest) ≡ goes_on (front ++ keys) (line + lines) end rest

-- the last byte, or 0 where there is none
abbrev pub last_of : List ℕ → ℕ
last_of bytes = slice_index bytes (length bytes - 1)

-- No line goes on behind the chunk.
abbrev pub EndsLine : ChunkEnd → Type 0
EndsLine (Open so_far) = so_far ≡ Start
EndsLine (Bad bad) = Unit {0}

-- ---- two texts of which the first is whole lines

-- how many line feeds there are
abbrev pub feeds : List ℕ → ℕ
feeds [] = 0
feeds (b ∷ bytes) = if b == 10 then feeds bytes + 1 else feeds bytes

-- the same fault, so many lines later
abbrev pub later : ℕ → TextFault → TextFault
later n (NotAKey line) = NotAKey (line + n)
later n (OutOfRange line) = OutOfRange (line + n)
later n TooMany = TooMany
later n TooLong = TooLong
later n faults.Read = faults.Read
later n faults.Memory = faults.Memory

abbrev pub moved : ℕ → Said → Said
moved n (keys, None) = (keys, None)
moved n (keys, Some e) = (keys, Some (later n e))

-- what one text says, and, where it has no fault, then what another one says so many lines later
abbrev pub then_said : ℕ → Said → Said → Said
then_said lines (keys, None) (more, None) = (keys ++ more, None)
then_said lines (keys, None) (more, Some e) = (keys ++ more, Some (later lines e))
then_said lines (keys, Some e) second = (keys, Some e)
