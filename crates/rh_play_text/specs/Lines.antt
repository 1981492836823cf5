-- The lines that a play prints. Numbers are decimal without leading zeros.
use Rattle.std.specs.Prelude.{ℕ, Bool, true, false, List, [], ◌++◌, codes, decimal}
use Rattle.rh_ledger.specs.declared.tally.Tally.{Tally}
use Rattle.rh_words.specs.declared.steps.StepKind.{StepKind}
use Rattle.rh_tagword.specs.declared.word.Word.{Word}
use Rattle.rh_tagword.specs.declared.word.Word.TheVariants.{Empty, Key, Mark, Desc}
use Rattle.rh_play_text.specs.declared.endings.Last.{Last}
use Rattle.rh_play_text.specs.declared.endings.Rest.{Rest}
use Rattle.rh_play_text.specs.Words.{kind_word, last_word, rest_word}

-- a word and a number before what follows
abbrev pub with_number : List ℕ → ℕ → List ℕ → List ℕ
with_number word n rest = word ++ (decimal n ++ rest)

-- the last word of a line, and its end
abbrev pub line_end : List ℕ → List ℕ
line_end word = codes " " ++ (word ++ codes "\n")

abbrev pub turn_line : (worker turns : ℕ) → Last → List ℕ
turn_line worker turns last = with_number (codes "turn ") worker (with_number (codes " ") turns (line_end (last_word last)))

abbrev pub until_line : (worker : ℕ) → StepKind → Last → List ℕ
until_line worker step last = with_number (codes "until ") worker (codes " " ++ (kind_word step ++ line_end (last_word last)))

abbrev pub rest_line : Rest → List ℕ
rest_line rest = codes "rest" ++ line_end (rest_word rest)

abbrev pub round_line : (began : Bool) → List ℕ
round_line true = codes "round yes\n"
round_line false = codes "round no\n"

abbrev pub key_line : (cell key : ℕ) → List ℕ
key_line cell key = with_number (codes "raw ") cell (with_number (codes " key ") key (codes "\n"))

-- of a mark or a descriptor, which has a worker and a number
abbrev pub reference_line : (cell : ℕ) → (name : List ℕ) → (worker number : ℕ) → List ℕ
reference_line cell name worker number = with_number (codes "raw ") cell (with_number name worker (with_number (codes " ") number (codes "\n")))

-- what the word of a cell says; an empty cell has no line
-- a cell 4 with the descriptor 0 of worker 1: "raw 4 desc 1 0\n"
abbrev pub raw_line : (cell : ℕ) → Word → List ℕ
raw_line cell Empty = []
raw_line cell (Key key) = key_line cell key
raw_line cell (Mark worker number) = reference_line cell (codes " mark ") worker number
raw_line cell (Desc worker number) = reference_line cell (codes " desc ") worker number

abbrev pub tally_line : Tally → List ℕ
tally_line tally =
    with_number (codes "read ") tally.read (with_number (codes " added ") tally.added
    (with_number (codes " removed ") tally.removed (with_number (codes " found ") tally.found (codes "\n"))))

abbrev pub end_line : (finished : Bool) → List ℕ
end_line true = codes "finished\n"
end_line false = codes "unfinished\n"
