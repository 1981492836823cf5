use Rattle.std.proofs.Common.{◌≡◌, drop}
use Rattle.rh_lines.specs.Lines.{lines_of}
use Rattle.rh_set_program.proofs.line_notes.line_at.Given as goal

-- the lines that are left
abbrev pub invariant-loop : goal.invariant-loop
invariant-loop l = lines_of l.rest ≡ drop l.counter (lines_of l.fn.text)
