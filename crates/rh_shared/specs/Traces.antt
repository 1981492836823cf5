-- The trace of a seat.
use Rattle.std.specs.Prelude.{List, [], ◌∷◌}
use Rattle.rh_rule.specs.declared.rule.Sitter.{Sitter}
use Rattle.rh_rule.specs.Traces.{Touch}

-- the steps that the seat of one worker made in this round, the newest first
abbrev pub trace_in : List Sitter → List Touch
trace_in [] = []
trace_in (s ∷ ss) = s.trace
