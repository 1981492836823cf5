-- A text that is read in parts.
use Rattle.std.specs.Prelude.{◌≡◌, ℕ, ◌≤◌, Bool, true, false, List, [], ◌++◌, length, Option, None, MatchOption, Result, Ok, Err}
use Rattle.std.specs.Io.KnownBytes.{Consumes, IsAtEnd}
use Rattle.rh_numbers.specs.declared.fault.TextFault.{TextFault}
use Rattle.rh_numbers.specs.declared.fault.TextFault.TheVariants.{Memory, Read}
use Rattle.rh_numbers.specs.declared.limits.TheConstants.{PART_BYTES}
use Rattle.rh_numbers.specs.declared.line_so_far.LineSoFar.{LineSoFar}
use Rattle.rh_numbers.specs.declared.reading.Reading.{Reading}
use Rattle.rh_numbers.specs.Reading.{Said, Stops, said_from}

abbrev pub keys_read : Reading → List ℕ
keys_read reading = reading.keys.items

-- the number of the line, and what it has said so far
abbrev pub line_reached : Reading → ℕ
line_reached reading = reading.line

abbrev pub so_far_of : Reading → LineSoFar
so_far_of reading = reading.so_far

-- what is said where these bytes come next
abbrev pub said_by : Reading → List ℕ → Said
said_by reading bytes = said_from reading.keys.items reading.line reading.so_far bytes

-- The part holds no fault: whatever comes behind it goes on from the new reading.
abbrev pub LeadsOn : (part : List ℕ) (old new : Reading) → Type 0
LeadsOn part old new = (rest : List ℕ) → said_by old (part ++ rest) ≡ said_by new rest

-- What came of a part. True says that the text may go on; then that was a whole part. Where memory was refused nothing was read.
-- Where a read failed, what came before that holds no fault. Of bytes that are not known nothing else is told.
abbrev pub PartGives : (part : List ℕ) (left : Option (List ℕ)) (old new : Reading) → Result Bool TextFault → Type 0
PartGives part left old new (Ok true) = (length part ≡ PART_BYTES) × LeadsOn part old new
PartGives part left old new (Ok false) = IsAtEnd left × (said_by old part ≡ (keys_read new, None))
PartGives part left old new (Err Memory) = (part ≡ []) × LeadsOn part old new
PartGives part left old new (Err Read) = LeadsOn part old new
PartGives part left old new (Err e) = MatchOption left (Unit {0}) (λ rest. Stops e (keys_read new) (said_by old (part ++ rest)))

-- A part was taken of the bytes, and this came of it.
pub record ReadsTextPart (bytes left : Option (List ℕ)) (old new : Reading) (r : Result Bool TextFault) : Type 0 where
  pub part : List ℕ
  pub taken : Consumes bytes left part
  pub short : length part ≤ PART_BYTES
  pub gives : PartGives part left old new r
