use Rattle.std.proofs.Common.{take}
use Rattle.rh_numbers.specs.Writing.{text_of}
use Rattle.rh_bytes.specs.Counting.{Emitted}
use Rattle.rh_numbers.proofs.writing.write_numbers.Given as goal

abbrev pub invariant-loop-number : goal.invariant-loop-number
invariant-loop-number g l = Emitted g.W.Write.contents l.fn.writer l.writer (text_of (take l.number-index l.numbers))
