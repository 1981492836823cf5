-- The grammar of texts of numbers: which bytes are one, and of which numbers.
use Rattle.std.specs.Prelude.{◌≡◌, ◌≢◌, ◌⊎◌, ◌≤◌, ◌+◌, ◌==◌, ◌&&◌, if◌then◌else◌, ℕ, suc, List, [], ◌∷◌, ◌++◌, length, All, codes}
use Rattle.std.specs.Str.Parse.{IsNumeral, digits_value}
use Rattle.rh_layout.specs.Key.{IsKey}
use Rattle.rh_layout.specs.declared.limits.TheConstants.{MAX_KEYS}

-- a space or a tab
abbrev pub IsSpace : ℕ → Type 0
IsSpace b = (b ≡ 32) ⊎ (b ≡ 9)

-- spaces and tabs, or nothing
abbrev pub AreSpaces : List ℕ → Type 0
AreSpaces [] = Unit {0}
AreSpaces (b ∷ bytes) = IsSpace b × AreSpaces bytes

-- the carriage return that a line may end by, or nothing
abbrev pub IsReturn : List ℕ → Type 0
IsReturn bytes = (bytes ≡ []) ⊎ (bytes ≡ codes "\r")

-- The line, without its line feed, says these numbers: none, or one in decimal digits.
pub data Says : (line numbers : List ℕ) → Type 0 where
  comment : (rest : List ℕ) → Says (35 ∷ rest) []
  blank : (spaces return : List ℕ) → AreSpaces spaces → IsReturn return → Says (spaces ++ return) []
  number : (before digits after return : List ℕ) → AreSpaces before → IsNumeral 10 digits → AreSpaces after → IsReturn return → Says (((before ++ digits) ++ after) ++ return) (digits_value 10 digits ∷ [])

-- no byte is a line feed
abbrev pub IsOneLine : List ℕ → Type 0
IsOneLine [] = Unit {0}
IsOneLine (b ∷ bytes) = (b ≢ 10) × IsOneLine bytes

-- The bytes are lines that say these numbers. Each line is ended by a line feed; the last may lack it.
pub data AreLines : (text numbers : List ℕ) → Type 0 where
  last : (line numbers : List ℕ) → IsOneLine line → Says line numbers → AreLines line numbers
  more : (line numbers text others : List ℕ) → IsOneLine line → Says line numbers → AreLines text others → AreLines (line ++ (10 ∷ text)) (numbers ++ others)

-- The bytes are so many lines that say these numbers, each ended by a line feed.
pub data AreWholeLines : (text numbers : List ℕ) (count : ℕ) → Type 0 where
  none : AreWholeLines [] [] 0
  one_more : (line numbers text others : List ℕ) (count : ℕ) → IsOneLine line → Says line numbers → AreWholeLines text others count → AreWholeLines (line ++ (10 ∷ text)) (numbers ++ others) (suc count)

-- a text without the byte order mark, EF BB BF, that may stand at its head
abbrev pub without_mark : List ℕ → List ℕ
without_mark (a ∷ b ∷ c ∷ bytes) = if a == 239 && (b == 187 && c == 191) then bytes else a ∷ b ∷ c ∷ bytes
without_mark bytes = bytes

-- the text is one of these keys, however many
pub record IsText (text keys : List ℕ) : Type 0 where
  pub lines : AreLines (without_mark text) keys
  pub in_range : All IsKey keys

-- the text is one of these keys: its numbers are keys, and not too many
-- "# 3\n 007\r\n\n9" is one of 7 and 9
pub record IsKeyText (text keys : List ℕ) : Type 0 where
  pub lines : AreLines (without_mark text) keys
  pub few : length keys ≤ MAX_KEYS
  pub in_range : All IsKey keys

-- the end of a line: that of the text, or a line feed
abbrev pub EndsLine : List ℕ → Type 0
EndsLine rest = (rest ≡ []) ⊎ ((text : List ℕ) × (rest ≡ 10 ∷ text))

-- The text begins with whole lines of these keys, and after them comes this line, which has this number.
pub record ComesTo (text keys : List ℕ) (number : ℕ) (line : List ℕ) : Type 0 where
  pub front : List ℕ
  pub rest : List ℕ
  pub before : ℕ
  pub split : without_mark text ≡ front ++ (line ++ rest)
  pub lines : AreWholeLines front keys before
  pub in_range : All IsKey keys
  pub counted : number ≡ 1 + before
  pub one : IsOneLine line
  pub ends : EndsLine rest
