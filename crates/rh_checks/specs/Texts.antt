-- What is told of a list, as a text. Numbers are decimal without leading zeros.
use Rattle.std.specs.Prelude.{ℕ, ◌==◌, if◌then◌else◌, List, [], ◌++◌, Option, Some, None, codes, decimal}
use Rattle.std.specs.List.{flat_map}
use Rattle.rh_numbers.specs.Excerpt.{held_by, shown}
use Rattle.rh_numbers.specs.declared.line_so_far.BadLine.{BadLine}
use Rattle.rh_numbers.specs.declared.line_so_far.BadLine.TheVariants.{NotAKey, OutOfRange}
use Rattle.rh_checks.specs.declared.found.ShownLine.{ShownLine}
use Rattle.rh_checks.specs.declared.report.Report.{Report}
use Rattle.rh_checks.specs.declared.sums.Span.{Span}
use Rattle.rh_checks.specs.declared.sums.Sums.{Sums}

-- what is wrong with a line
abbrev pub words_of : BadLine → List ℕ
words_of NotAKey = codes "not a number from 0 to 4611686018427387902"
words_of OutOfRange = codes "number above 4611686018427387902"

-- of a second line that is `id`: line 2: not a number from 0 to 4611686018427387902: "id"
abbrev pub line_text : ShownLine → List ℕ
line_text line = codes "line " ++ (decimal line.line ++ (codes ": " ++ (words_of line.bad ++ (codes ": " ++ shown (held_by line.text)))))

-- the line of a report, which begins by the place of the list
abbrev pub bad_text : (place : List ℕ) → ShownLine → List ℕ
bad_text place line = place ++ (line_text line ++ codes "\n")

-- that there are more of them
abbrev pub more_text : (place : List ℕ) → ℕ → List ℕ
more_text place more =
    if more == 0 then []
    else place ++ (decimal more ++ (codes " more bad " ++ ((if more == 1 then codes "line" else codes "lines") ++ codes "\n")))

-- the end of the line, behind how many numbers there are
abbrev pub span_text : (different : ℕ) → Option Span → List ℕ
span_text different None = codes "\n"
span_text different (Some span) =
    codes ", " ++ (decimal different ++ (codes " different, from " ++ (decimal span.least ++ (codes " to " ++ (decimal span.greatest ++ codes "\n")))))

-- 5 numbers, 4 different, from 1 to 99
abbrev pub sums_text : (place : List ℕ) → Sums → List ℕ
sums_text place sums =
    place ++ (decimal sums.count ++ (codes " " ++ ((if sums.count == 1 then codes "number" else codes "numbers") ++ span_text sums.different sums.span)))

abbrev pub report_text : (place : List ℕ) → Report → List ℕ
report_text place report = flat_map (bad_text place) report.bad.items ++ (more_text place report.more ++ sums_text place report.sums)
