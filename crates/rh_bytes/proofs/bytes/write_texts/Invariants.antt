use Rattle.std.proofs.Common.{take}
use Rattle.rh_bytes.specs.Counting.{Emitted, joined}
use Rattle.rh_bytes.proofs.bytes.write_texts.Given as goal

abbrev pub invariant-loop-text : goal.invariant-loop-text
invariant-loop-text g l = Emitted g.W.Write.contents l.fn.writer l.writer (joined (take l.text-index l.texts))
