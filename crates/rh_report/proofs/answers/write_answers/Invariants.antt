use Rattle.std.proofs.Common.{◌≡◌, ℕ, List, ◌++◌, length}
use Rattle.rh_bytes.specs.Counting.{Emitted}
use Rattle.rh_report.specs.Texts.{digits_from}
use Rattle.rh_report.proofs.answers.write_answers.Given as goal

abbrev pub invariant-loop-rest : goal.invariant-loop-rest
invariant-loop-rest g l = record {
  text : List ℕ;
  parts : digits_from 0 l.fn.answers ≡ text ++ digits_from 0 l.rest;
  written : Emitted g.W.Write.contents l.fn.writer l.writer text;
}

abbrev pub decreases-loop-rest : goal.decreases-loop-rest
decreases-loop-rest g l = length l.rest
