-- A text on the way: what passes from one byte to the next. The lemma `walked` of `proofs/Walks.antt` ties it to the lines.
use Rattle.std.specs.Prelude.{ℕ, ◌+◌, ◌==◌, nat_lt, if◌then◌else◌, List, [], ◌∷◌, ◌++◌, length, map, take, Some, None}
use Rattle.rh_numbers.specs.Chunks.{in_line}
use Rattle.rh_numbers.specs.Excerpt.{held_by, shown, without_return}
use Rattle.rh_numbers.specs.Reading.{Said, next, with_line}
use Rattle.rh_numbers.specs.declared.excerpt.TheConstants.{HELD_BYTES}
use Rattle.rh_numbers.specs.declared.line_so_far.LineSoFar.{LineSoFar}
use Rattle.rh_numbers.specs.declared.line_so_far.LineSoFar.TheVariants.{Start}
use Rattle.rh_checks.specs.declared.found.ShownLine.{ShownLine}
use Rattle.rh_checks.specs.declared.limits.TheConstants.{SHOWN_LINES}
use Rattle.rh_checks.specs.declared.walk.Walk.{Walk}
use Rattle.rh_checks.specs.Lines.{Bad, Findings}

-- ---- the end of a line

-- another bad line: one of the first, or one more
abbrev pub with_bad : Findings → Bad → Findings
with_bad t bad =
    if nat_lt (length t.shown) SHOWN_LINES then record t { shown = t.shown ++ bad ∷ [] }
    else record t { more = t.more + 1 }

-- a line that says this, and is shown so
abbrev pub with_said : Findings → Said → (text : List ℕ) → Findings
with_said t (keys, None) text = record t { numbers = t.numbers ++ keys }
with_said t (keys, Some fault) text = with_bad t (fault, text)

-- a line that has said this so far, of which these bytes are held, ends here
abbrev pub line_ends : Findings → (line : ℕ) → LineSoFar → (held : List ℕ) → Findings
line_ends t line so_far held = with_said t (with_line [] line so_far) (shown (without_return held))

-- ---- the bytes

unfoldable pub findings_from : Findings → (line : ℕ) → LineSoFar → (held : List ℕ) → List ℕ → Findings
findings_from t line so_far held [] = line_ends t line so_far held
findings_from t line so_far held (b ∷ bytes) =
    if b == 10 then findings_from (line_ends t line so_far held) (line + 1) Start [] bytes
    else findings_from t line (next so_far b) (take HELD_BYTES (held ++ b ∷ [])) bytes

-- ---- in the code

abbrev pub shown_as : ShownLine → Bad
shown_as line = (in_line line.line line.bad, shown (held_by line.text))

abbrev pub findings_so_far : Walk → Findings
findings_so_far walk = record { numbers = walk.keys.items; shown = map shown_as walk.bad.items; more = walk.more }

-- what is found where these bytes come next
abbrev pub findings_on : Walk → List ℕ → Findings
findings_on walk rest = findings_from (findings_so_far walk) walk.line walk.so_far (held_by walk.text) rest
