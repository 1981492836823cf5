use Rattle.std.proofs.Common.{take}
use Rattle.rh_bytes.specs.Counting.{Emitted}
use Rattle.rh_report.specs.Texts.{front_text, numbers_as}
use Rattle.rh_report.proofs.lines.write_front.Given as goal

abbrev pub invariant-loop-label : goal.invariant-loop-label
invariant-loop-label g l = Emitted g.W.Write.contents l.fn.writer l.writer (front_text l.word l.name (numbers_as (take l.label-index l.numbers)))
