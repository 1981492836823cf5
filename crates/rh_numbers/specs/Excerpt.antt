-- A line of a text that is shown to a person, as where it is refused.
use Rattle.std.specs.Prelude.{◌≡◌, ℕ, zero, suc, ◌-◌, ◌+◌, ◌/◌, ◌%◌, ◌≤◌, ◌⊎◌, ◌==◌, ◌||◌, nat_lt, nat_le, ◌&&◌, if◌then◌else◌, List, [], ◌∷◌, ◌++◌, length, take, codes, Option, Some, None}
use Rattle.std.specs.List.{flat_map}
use Rattle.rh_numbers.specs.declared.excerpt.Excerpt.{Excerpt}
use Rattle.rh_numbers.specs.declared.excerpt.TheConstants.{SHOWN_BYTES}
use Rattle.rh_numbers.specs.declared.limits.TheConstants.{MAX_BYTES}
use Rattle.rh_numbers.specs.Grammar.{without_mark}

-- ---- the line

-- the bytes before the first line feed
abbrev pub first_line : List ℕ → List ℕ
first_line [] = []
first_line (b ∷ bytes) = if b == 10 then [] else b ∷ first_line bytes

-- the line behind so many line feeds, if there are so many
abbrev pub line_behind : (feeds : ℕ) → List ℕ → Option (List ℕ)
line_behind zero bytes = Some (first_line bytes)
line_behind (suc feeds) [] = None
line_behind (suc feeds) (b ∷ bytes) = if b == 10 then line_behind feeds bytes else line_behind (suc feeds) bytes

-- the line of a text that has this number, from 1 on; 0 counts as 1
abbrev pub line_of : (number : ℕ) (text : List ℕ) → Option (List ℕ)
line_of number text = line_behind (number - 1) (without_mark text)

-- a line without the carriage return that it may end by
abbrev pub without_return : List ℕ → List ℕ
without_return [] = []
without_return (b ∷ []) = if b == 13 then [] else b ∷ []
without_return (b ∷ c ∷ bytes) = b ∷ without_return (c ∷ bytes)

-- ---- how it is shown

-- 10 is A
abbrev pub hex_digit : ℕ → ℕ
hex_digit d = if nat_lt d 10 then 48 + d else 55 + d

-- printable ASCII as it is, but a quote and a backslash with a backslash before them; any other byte as \xEF
abbrev pub shown_byte : ℕ → List ℕ
shown_byte b =
    if b == 34 || b == 92 then 92 ∷ b ∷ []
    else if nat_le 32 b && nat_le b 126 then b ∷ []
    else 92 ∷ 120 ∷ hex_digit (b / 16) ∷ hex_digit (b % 16) ∷ []

-- A line in quotes, at most so many bytes of it, and two dots behind the quotes where it goes on.
abbrev pub shown : List ℕ → List ℕ
shown line = codes "\"" ++ (flat_map shown_byte (take SHOWN_BYTES line) ++ (codes "\"" ++ (if nat_lt SHOWN_BYTES (length line) then codes ".." else [])))

-- ---- what is held of it

abbrev pub held_by : Excerpt → List ℕ
held_by e = take e.length e.bytes

-- it is shown as this line is
abbrev pub IsExcerptOf : List ℕ → Excerpt → Type 0
IsExcerptOf line e = shown (held_by e) ≡ shown (without_return line)

-- Where the bytes are known, this is an excerpt of their line that has this number.
abbrev pub ShowsLine : (number : ℕ) → Option (List ℕ) → Excerpt → Type 0
ShowsLine number None e = Unit {0}
ShowsLine number (Some bytes) e = (line : List ℕ) × (line_of number bytes ≡ Some line) × IsExcerptOf line e

-- Where the bytes are known, they have no such line, or too many bytes to look for it.
abbrev pub LacksLine : (number : ℕ) → Option (List ℕ) → Type 0
LacksLine number None = Unit {0}
LacksLine number (Some bytes) = (line_of number bytes ≡ None) ⊎ (MAX_BYTES ≤ length bytes)
