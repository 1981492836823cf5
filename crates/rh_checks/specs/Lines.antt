-- The lines of a text, what each says by itself, and which of them are bad.
use Rattle.std.specs.Prelude.{ℕ, ◌+◌, ◌-◌, ◌==◌, if◌then◌else◌, List, [], ◌∷◌, ◌++◌, length, take, Some, None}
use Rattle.std.specs.List.{fold}
use Rattle.rh_numbers.specs.declared.fault.TextFault.{TextFault}
use Rattle.rh_numbers.specs.declared.line_so_far.LineSoFar.TheVariants.{Start}
use Rattle.rh_numbers.specs.Excerpt.{shown, without_return}
use Rattle.rh_numbers.specs.Grammar.{without_mark}
use Rattle.rh_numbers.specs.Reading.{Said, next, with_line}
use Rattle.rh_checks.specs.declared.limits.TheConstants.{SHOWN_LINES}

-- ---- lines

-- the lines, with these bytes before the first one
abbrev pub with_front : List ℕ → List (List ℕ) → List (List ℕ)
with_front front [] = front ∷ []
with_front front (line ∷ lines) = (front ++ line) ∷ lines

-- what stands before the first line feed of a text, between one and the next, and behind the last
abbrev pub text_lines : List ℕ → List (List ℕ)
text_lines [] = [] ∷ []
text_lines (b ∷ bytes) = if b == 10 then [] ∷ text_lines bytes else with_front (b ∷ []) (text_lines bytes)

-- what a line with this number says by itself
abbrev pub line_said : (number : ℕ) (line : List ℕ) → Said
line_said number line = with_line [] number (fold next Start line)

-- the number of a line that is good and has one
abbrev pub numbers_in : Said → List ℕ
numbers_in (keys, None) = keys
numbers_in (keys, Some fault) = []

-- the numbers of the good lines, of which the first has this number
abbrev pub numbers_of : (number : ℕ) → List (List ℕ) → List ℕ
numbers_of number [] = []
numbers_of number (line ∷ lines) = numbers_in (line_said number line) ++ numbers_of (number + 1) lines

-- a bad line: its fault, which has its number, and how it is shown
abbrev pub Bad : Type 0
Bad = TextFault × List ℕ

abbrev pub bad_in : Said → (line : List ℕ) → List Bad
bad_in (keys, None) line = []
bad_in (keys, Some fault) line = (fault, shown (without_return line)) ∷ []

-- the bad lines, of which the first line has this number
abbrev pub bad_of : (number : ℕ) → List (List ℕ) → List Bad
bad_of number [] = []
bad_of number (line ∷ lines) = bad_in (line_said number line) line ++ bad_of (number + 1) lines

-- ---- a text

-- a byte order mark at its head says nothing
abbrev pub lines_of : List ℕ → List (List ℕ)
lines_of text = text_lines (without_mark text)

-- the numbers of its good lines
abbrev pub good_numbers : List ℕ → List ℕ
good_numbers text = numbers_of 1 (lines_of text)

abbrev pub bad_lines : List ℕ → List Bad
bad_lines text = bad_of 1 (lines_of text)

-- ---- what is kept of it

-- numbers, the first bad lines, and how many more there are
pub record Findings : Type 0 where
  pub numbers : List ℕ
  pub shown : List Bad
  pub more : ℕ

abbrev pub findings : List ℕ → List Bad → Findings
findings numbers bad = record { numbers = numbers; shown = take SHOWN_LINES bad; more = length bad - SHOWN_LINES }

abbrev pub text_findings : List ℕ → Findings
text_findings text = findings (good_numbers text) (bad_lines text)
