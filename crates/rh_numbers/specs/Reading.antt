-- Reading a text of numbers from left to right, byte by byte, up to its first fault. What a text is, is a relation on its lines
-- (`Grammar`); the laws `one_meaning` and `first_fault` tie the two, so that no reader of a contract has to trust this walk.
use Rattle.std.specs.Prelude.{◌≡◌, ℕ, ◌+◌, ◌-◌, ◌*◌, ◌≤◌, min, ◌==◌, ◌||◌, nat_lt, if◌then◌else◌, List, [], ◌∷◌, ◌++◌, length, Option, Some, None, Result, Ok, Err}
use Rattle.std.specs.Char.{is_ascii_digit}
use Rattle.std.specs.Io.KnownBytes.{Consumes}
use Rattle.rh_layout.specs.declared.limits.TheConstants.{MAX_KEY, MAX_KEYS}
use Rattle.rh_numbers.specs.declared.fault.TextFault.{TextFault}
use Rattle.rh_numbers.specs.declared.fault.TextFault.TheVariants as faults
use Rattle.rh_numbers.specs.declared.fault.TextFault.TheVariants.{NotAKey, OutOfRange, TooMany, TooLong}
use Rattle.rh_numbers.specs.declared.line_so_far.LineSoFar.{LineSoFar}
use Rattle.rh_numbers.specs.declared.line_so_far.LineSoFar.TheVariants.{Head, MarkOne, MarkTwo, Start, Blank, Comment, Number, After, Return, Other}
use Rattle.rh_numbers.specs.declared.limits.TheConstants.{MAX_BYTES, PART_BYTES}
use Rattle.rh_numbers.specs.Grammar.{IsKeyText}

-- ---- a line

-- the number with one more digit; all numbers above the greatest key count as the first of them
abbrev pub grown : ℕ → ℕ → ℕ
grown n b = min (n * 10 + (b - 48)) (MAX_KEY + 1)

-- after a byte that is no digit, where the line has said this so far
abbrev pub past : (blank : LineSoFar) → Option ℕ → ℕ → LineSoFar
past blank said b = if b == 32 || b == 9 then blank else if b == 13 then Return said else Other

-- after a byte with only spaces and tabs before it
abbrev pub first : ℕ → LineSoFar
first b = if is_ascii_digit b then Number (grown 0 b) else past Blank None b

-- after the first byte of a line
abbrev pub begun : ℕ → LineSoFar
begun b = if b == 35 then Comment else first b

-- what a line has said after its next byte
abbrev pub next : LineSoFar → ℕ → LineSoFar
next Head b = if b == 239 then MarkOne else begun b
next MarkOne b = if b == 187 then MarkTwo else Other
next MarkTwo b = if b == 191 then Start else Other
next Start b = begun b
next Blank b = first b
next Comment b = Comment
next (Number n) b = if is_ascii_digit b then Number (grown n b) else past (After n) (Some n) b
next (After n) b = past (After n) (Some n) b
next (Return said) b = Other
next Other b = Other

-- what a text has said: the keys before its first fault, and that fault if there is one
abbrev pub Said : Type 0
Said = List ℕ × Option TextFault

-- the keys, and this number, in this line
abbrev pub with_key : (keys : List ℕ) (line n : ℕ) → Said
with_key keys line n = if nat_lt MAX_KEY n then (keys, Some (OutOfRange line)) else (keys ++ n ∷ [], None)

-- the keys, and what this line said, which ends here
abbrev pub with_line : (keys : List ℕ) (line : ℕ) → LineSoFar → Said
with_line keys line (Number n) = with_key keys line n
with_line keys line (After n) = with_key keys line n
with_line keys line (Return (Some n)) = with_key keys line n
with_line keys line MarkOne = (keys, Some (NotAKey line))
with_line keys line MarkTwo = (keys, Some (NotAKey line))
with_line keys line Other = (keys, Some (NotAKey line))
with_line keys line _ = (keys, None)

-- ---- a text

-- what was said, and, where that has no fault, what is said then
infixl 10 ◌>>=◌
abbrev pub ◌>>=◌ : Said → (List ℕ → Said) → Said
(keys, None) >>= f = f keys
(keys, Some e) >>= f = (keys, Some e)

-- what is said with what comes after these keys, where this line has said so much so far
unfoldable pub said_from : (keys : List ℕ) (line : ℕ) → LineSoFar → List ℕ → Said
said_from keys line so_far [] = with_line keys line so_far
said_from keys line so_far (b ∷ bytes) =
    if b == 10 then with_line keys line so_far >>= (λ more. said_from more (line + 1) Start bytes)
    else said_from keys line (next so_far b) bytes

-- lines from the first on, with no byte order mark before them
abbrev pub lines_said : List ℕ → Said
lines_said lines = said_from [] 1 Start lines

-- a text of any length
abbrev pub text_said : List ℕ → Said
text_said text = said_from [] 1 Head text

abbrev pub if_no_fault : List ℕ → Option TextFault → Result (List ℕ) TextFault
if_no_fault keys None = Ok keys
if_no_fault keys (Some e) = Err e

-- one key more than there may be is a fault too
abbrev pub limited : Said → Result (List ℕ) TextFault
limited said = if nat_lt MAX_KEYS (length said.0) then Err TooMany else if_no_fault said.0 said.1

-- the keys of a text that may have a million, or the first fault in it
abbrev pub text_keys : List ℕ → Result (List ℕ) TextFault
text_keys text = limited (text_said text)

-- What is said stops at this fault, after these keys. The limit comes before another key; the bytes alone give no other fault.
abbrev pub Stops : TextFault → (keys : List ℕ) → Said → Type 0
Stops faults.Memory keys said = ⊥
Stops faults.Read keys said = ⊥
Stops TooLong keys said = ⊥
Stops (NotAKey line) keys said = said ≡ (keys, Some (NotAKey line))
Stops (OutOfRange line) keys said = said ≡ (keys, Some (OutOfRange line))
Stops TooMany keys said = (MAX_KEYS ≤ length keys) × (key : ℕ) × (more : List ℕ) × (said.0 ≡ keys ++ (key ∷ more))

-- ---- what is said of a reader's bytes

-- A failed read and want of memory say nothing of the bytes behind those that were taken (of these `TakesFew` and `TakesFewParts`
-- speak), and a text that is too long may have faults too.
abbrev pub TextFails : TextFault → List ℕ → Type 0
TextFails faults.Read bytes = Unit {0}
TextFails faults.Memory bytes = Unit {0}
TextFails TooLong bytes = MAX_BYTES ≤ length bytes
TextFails (NotAKey line) bytes = text_keys bytes ≡ Err (NotAKey line)
TextFails (OutOfRange line) bytes = text_keys bytes ≡ Err (OutOfRange line)
TextFails TooMany bytes = text_keys bytes ≡ Err TooMany

-- Where the bytes are known, they were read to their end, and what view sees are the keys of the text; or this is the fault.
abbrev pub ReadsText : {X : Type 0} → Option (List ℕ) → Option (List ℕ) → (X → List ℕ) → Result X TextFault → Type 0
ReadsText None new view r = Unit {0}
ReadsText (Some bytes) new view (Err e) = TextFails e bytes
ReadsText (Some bytes) None view (Ok x) = ⊥
ReadsText (Some bytes) (Some rest) view (Ok x) = (text_keys bytes ≡ Ok (view x)) × (rest ≡ [])

-- Known bytes are a text of these keys, and none is left.
abbrev pub IsTextReadFrom : Option (List ℕ) → Option (List ℕ) → List ℕ → Type 0
IsTextReadFrom None new keys = Unit {0}
IsTextReadFrom (Some bytes) None keys = ⊥
IsTextReadFrom (Some bytes) (Some rest) keys = IsKeyText bytes keys × (rest ≡ [])

-- What a call tells says that no read failed. A bad line and a key too many do not: they may stand before a failed read.
abbrev pub NoTextReadFailed : Option TextFault → Type 0
NoTextReadFailed None = Unit {0}
NoTextReadFailed (Some faults.Memory) = Unit {0}
NoTextReadFailed (Some TooLong) = Unit {0}
NoTextReadFailed (Some fault) = ⊥

-- These bytes say these keys, and reading goes on after them, whatever comes: they hold no fault.
abbrev pub SayOnly : (bytes keys : List ℕ) → Type 0
SayOnly bytes keys =
    (line : ℕ) × (so_far : LineSoFar) × ((rest : List ℕ) → text_said (bytes ++ rest) ≡ said_from keys line so_far rest)

-- They hold no fault, nor too many keys.
abbrev pub HoldNoFault : List ℕ → Type 0
HoldNoFault bytes = (keys : List ℕ) × (length keys ≤ MAX_KEYS) × SayOnly bytes keys

-- Of the bytes that were taken those before the last part hold no fault.
pub record TakesToFault (old new : Option (List ℕ)) : Type 0 where
  pub before : List ℕ
  pub last : List ℕ
  pub taken : Consumes old new (before ++ last)
  pub short : length last ≤ PART_BYTES
  pub no_fault : HoldNoFault before

-- The bytes that were taken hold no fault, and say these keys.
pub record TakesGood (old new : Option (List ℕ)) (keys : List ℕ) : Type 0 where
  pub taken : List ℕ
  pub consumed : Consumes old new taken
  pub no_fault : SayOnly taken keys

-- And they are whole parts.
abbrev pub TakesGoodParts : (old new : Option (List ℕ)) (keys : List ℕ) → Type 0
TakesGoodParts old new keys = (good : TakesGood old new keys) × (count : ℕ) × (length good.taken ≡ PART_BYTES * count)

-- The bytes that were taken hold no fault, nor too many keys.
abbrev pub TakesFew : (old new : Option (List ℕ)) → Type 0
TakesFew old new = (keys : List ℕ) × (length keys ≤ MAX_KEYS) × TakesGood old new keys

-- And they are whole parts.
abbrev pub TakesFewParts : (old new : Option (List ℕ)) → Type 0
TakesFewParts old new = (keys : List ℕ) × (length keys ≤ MAX_KEYS) × TakesGoodParts old new keys
