use Rattle.std.proofs.Common.{take}
use Rattle.rh_key_files.specs.KeyFile.{spelled_keys}
use Rattle.rh_bytes.specs.Counting.{Emitted}
use Rattle.rh_key_files.proofs.encoding.put_keys.Given as goal

abbrev pub invariant-loop-key : goal.invariant-loop-key
invariant-loop-key g l = Emitted g.W.Write.contents l.fn.writer l.writer (spelled_keys (take l.key-index l.keys))
