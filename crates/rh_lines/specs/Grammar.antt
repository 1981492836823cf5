-- What the grammars of texts of lines share: a line says what its words say, and a text what its lines say, one after the
-- other, or its first fault.
use Rattle.std.specs.Prelude.{◌≡◌, ◌≢◌, ℕ, ◌+◌, ◌-◌, IsTrue, if◌then◌else◌, List, [], ◌∷◌, take, Option, Some, None, Result, Ok, Err, MatchResult, is_ok}
use Rattle.std.specs.List.{list_all}
use Rattle.rh_lines.specs.Lines.{is_printable, is_skipped, lines_of, words_of}

-- one step, and then the next
infixl 10 ◌>>=◌
abbrev pub ◌>>=◌ : {A B E : Type 0} → Result A E → (A → Result B E) → Result B E
(Ok x) >>= f = f x
(Err e) >>= f = Err e

-- What a call answers, seen by view, is what the grammar says; want of memory says nothing of it.
abbrev pub AnswersExcept : {X Y E : Type 0} → (memory : E) → Result Y E → (X → Y) → Result X E → Type 0
AnswersExcept memory said view r = MatchResult r (λ x. said ≡ Ok (view x)) (λ fault. fault ≢ memory → said ≡ Err fault)

-- ---- a line

-- this is said, if there is no word
unfoldable pub no_word : {A E : Type 0} → (bad : E) → A → List (List ℕ) → Result A E
no_word bad said [] = Ok said
no_word bad said _ = Err bad

-- what a line says, if anything
-- `# a b` says nothing, `a b` what `says` makes of its two words; a line with a tab in it is bad
unfoldable pub line_said : {A E : Type 0} → (bad : E) → (says : List (List ℕ) → Result A E) → List ℕ → Result (Option A) E
line_said bad says line =
    if is_skipped line then Ok None
    else if list_all is_printable line then says (words_of line) >>= (λ said. Ok (Some said))
    else Err bad

-- ---- a text

-- How a text is read: what there is before its first line; what a line makes of it, by its number and its bytes; and the
-- fault of a text whose line of this number has a fault.
pub record Grammar (S E F : Type 0) : Type 0 where
  pub start : S
  pub after_line : ℕ → S → List ℕ → Result S E
  pub fault_at : ℕ → E → F

abbrev pub at_line : {A S E F : Type 0} → Grammar S E F → ℕ → Result A E → Result A F
at_line grammar number (Ok x) = Ok x
at_line grammar number (Err e) = Err (grammar.fault_at number e)

-- what there is after these lines, of which the first has this number
unfoldable pub after_lines : {S E F : Type 0} → Grammar S E F → ℕ → S → List (List ℕ) → Result S F
after_lines grammar number so_far [] = Ok so_far
after_lines grammar number so_far (line ∷ lines) =
    at_line grammar number (grammar.after_line number so_far line) >>= (λ next. after_lines grammar (number + 1) next lines)

-- what there is after all lines of a text
-- where the second line has the fault `e`, and the first none, this is `Err (fault_at 2 e)`, whatever the third says
abbrev pub read_by : {S E F : Type 0} → Grammar S E F → List ℕ → Result S F
read_by grammar text = after_lines grammar 1 grammar.start (lines_of text)

-- the lines of a text before that of this number have no fault
abbrev pub NoFaultBefore : {S E F : Type 0} → Grammar S E F → ℕ → List ℕ → Type 0
NoFaultBefore grammar number text =
    IsTrue (is_ok (after_lines grammar 1 grammar.start (take (number - 1) (lines_of text))))
