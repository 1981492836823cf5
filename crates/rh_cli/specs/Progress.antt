-- The line on a terminal that tells how far work is.
use Rattle.std.specs.Prelude.{◌≡◌, ◌⊎◌, ℕ, Bool, true, List, [], ◌∷◌, ◌++◌, if◌then◌else◌, codes, decimal, Option, Some, None, option_map, Result, ◌/◌}
use Rattle.rh_bytes.specs.Counting.{Emits}
use Rattle.rh_bytes.specs.declared.counted.Counted.{Counted}
use Rattle.rh_bytes.specs.declared.fault.WriteFault.{WriteFault}
use Rattle.rh_cli.specs.declared.progress.ProgressLine.{ProgressLine}

-- what takes the line away: the cursor goes back to its head, from below it, and all behind the cursor is cleared
abbrev pub taken_away : List ℕ
taken_away = codes "\r" ++ (27 ∷ codes "[A") ++ (27 ∷ codes "[K")

-- the line stands on the terminal
abbrev pub stands : {R W : Type 0} → ProgressLine R W → Bool
stands line = line.stands

abbrev pub terminal : {R W : Type 0} → ProgressLine R W → Counted W
terminal line = line.terminal

-- how many bytes were read, as far as they were told
abbrev pub read_so_far : {R W : Type 0} → ProgressLine R W → ℕ
read_so_far line = line.read

-- the line of a script that has something read, where it is one
abbrev pub line_at : {R W : Type 0} → ProgressLine R W → Option ℕ
line_at line = line.at

abbrev pub millions : ℕ → ℕ
millions n = n / 1000000

-- how many million bytes are to be read, where that is known
abbrev pub told_total : {R W : Type 0} → ProgressLine R W → Option ℕ
told_total line = option_map millions line.total

-- what comes before the next line: it takes the last one away, where one stands
abbrev pub before : {R W : Type 0} → ProgressLine R W → List ℕ
before line = if line.stands then taken_away else []

-- the line of a script that has it read, where one has
abbrev pub front_text : (line : Option ℕ) → List ℕ
front_text (Some line) = codes "line " ++ decimal line ++ codes ": "
front_text None = []

-- of how many million bytes, where that is known
abbrev pub of_text : (total : Option ℕ) → List ℕ
of_text (Some total) = codes " of " ++ decimal total
of_text None = []

-- how many million bytes of so many were read
abbrev pub read_text : (read : ℕ) → (total : Option ℕ) → List ℕ
read_text read total = codes "read " ++ decimal read ++ of_text total ++ codes " MB\n"

abbrev pub cut_text : List ℕ
cut_text = codes "cutting the lists into parts\n"

abbrev pub done_text : (parts of : ℕ) → List ℕ
done_text parts of = decimal parts ++ codes " of " ++ decimal of ++ codes " parts\n"

-- The text went to the terminal, or a front of it where that failed.
abbrev pub Went : {W : Type 0} (contents : W → Option (List ℕ)) (old new : Counted W) (text : List ℕ) → Type 0
Went contents old new text = (r : Result (Unit {0}) WriteFault) × Emits contents old new text r

-- the line stands there and says this, in place of what it said before
pub record Shows {R W : Type 0} (contents : W → Option (List ℕ)) (old new : ProgressLine R W) (text : List ℕ) : Type 0 where
  pub there : stands new ≡ true
  pub went : Went contents (terminal old) (terminal new) (before old ++ text)

-- nothing changed on the terminal
pub record IsSilent {R W : Type 0} (old new : ProgressLine R W) : Type 0 where
  pub there : stands new ≡ stands old
  pub same : terminal new ≡ terminal old

-- it is shown only where it is time for that
abbrev pub Tells : {R W : Type 0} (contents : W → Option (List ℕ)) (old new : ProgressLine R W) (text : List ℕ) → Type 0
Tells contents old new text = IsSilent old new ⊎ Shows contents old new text
