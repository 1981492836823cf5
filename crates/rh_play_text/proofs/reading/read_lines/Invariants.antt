use Rattle.std.proofs.Common.{◌+◌, ◌≤◌, length}
use Rattle.rh_lines.specs.Lines.{lines_of}
use Rattle.rh_lines.proofs.Reading.{Stands}
use Rattle.rh_play_text.specs.declared.limits.TheConstants.{MAX_TEXT_BYTES}
use Rattle.rh_play_text.specs.Grammar.{play_grammar}
use Rattle.rh_play_text.specs.Play.{way_of}
use Rattle.rh_play_text.proofs.reading.read_lines.Given as goal

-- the lines that were read gave the way so far
abbrev pub invariant-loop-line : goal.invariant-loop-line
invariant-loop-line l = record {
  few : l.number + length (lines_of l.rest) ≤ MAX_TEXT_BYTES;
  stands : Stands play_grammar (lines_of l.text) l.number (way_of l.draft) (lines_of l.rest);
}

abbrev pub decreases-loop-line : goal.decreases-loop-line
decreases-loop-line l = length (lines_of l.rest)
