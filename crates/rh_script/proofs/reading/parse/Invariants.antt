use Rattle.std.proofs.Common.{◌≤◌, length, map}
use Rattle.rh_script.specs.declared.limits.TheConstants.{MAX_LINES}
use Rattle.rh_lines.specs.Lines.{lines_of}
use Rattle.rh_lines.proofs.Reading.{Stands}
use Rattle.rh_script.specs.Grammar.{script_grammar}
use Rattle.rh_script.specs.Steps.{step_as}
use Rattle.rh_script.specs.Script.{HasRead}
use Rattle.rh_script.proofs.reading.parse.Given as goal

-- the lines that were read gave the steps so far
abbrev pub invariant-loop-line : goal.invariant-loop-line
invariant-loop-line l = record {
  few : l.reading.line ≤ MAX_LINES;
  stands : Stands script_grammar (lines_of l.text) l.reading.line (map step_as l.reading.steps.items) (lines_of l.rest);
  known : HasRead l.reading.steps.items l.reading.given;
}

abbrev pub decreases-loop-line : goal.decreases-loop-line
decreases-loop-line l = length (lines_of l.rest)
