-- The texts of reports. Numbers are decimal without leading zeros.
use Rattle.std.specs.Prelude.{ℕ, ◌+◌, ◌==◌, Bool, true, false, if◌then◌else◌, List, [], ◌∷◌, ◌++◌, length, map, codes, decimal, count_by}
use Rattle.std.specs.Borrow.{Bor}
use Rattle.std.specs.List.{flat_map}
use Rattle.rh_report.specs.declared.answers.TheConstants.{ANSWERS_PER_LINE}

-- numbers with their labels
abbrev pub Numbers : Type 0
Numbers = List (List ℕ × ℕ)

-- a line as far as its numbers
abbrev pub front_text : (word name : List ℕ) → Numbers → List ℕ
front_text word name numbers = word ++ (name ++ flat_map (λ number. number.0 ++ decimal number.1) numbers)

-- a line: a word, a name or a path, and numbers, each after its label
abbrev pub line_text : (word name : List ℕ) → Numbers → List ℕ
line_text word name numbers = front_text word name numbers ++ codes "\n"

-- those at the end of the line of a command that leaves another table
abbrev pub table_numbers : (held bits : ℕ) → Numbers
table_numbers held bits = (codes " held ", held) ∷ (codes " bits ", bits) ∷ []

-- the code's numbers
abbrev pub numbers_as : List (Bor (List ℕ) × ℕ) → Numbers
numbers_as numbers = map (λ number. (number.0.now, number.1)) numbers

-- ---- look-ups

abbrev pub digit_of : Bool → ℕ
digit_of true = 49
digit_of false = 48

-- The answers as digits 1 and 0, where so many stand on the line already. A line ends after its last place, and
-- after the last answer.
abbrev pub digits_from : ℕ → List Bool → List ℕ
digits_from n [] = if n == 0 then [] else codes "\n"
digits_from n (answer ∷ answers) =
    if n + 1 == ANSWERS_PER_LINE then digit_of answer ∷ (codes "\n" ++ digits_from 0 answers) else digit_of answer ∷ digits_from (n + 1) answers

abbrev pub is_true : Bool → Bool
is_true answer = answer

-- the line before the answers
abbrev pub asked_head : (name : List ℕ) → (answers : List Bool) → List ℕ
asked_head name answers = line_text (codes "ask ") name ((codes " read ", length answers) ∷ (codes " found ", count_by is_true answers) ∷ [])

abbrev pub asked_text : (name : List ℕ) → (answers : List Bool) → List ℕ
asked_text name answers = asked_head name answers ++ digits_from 0 answers
