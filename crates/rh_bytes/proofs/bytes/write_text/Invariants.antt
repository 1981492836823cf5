use Rattle.std.proofs.Common.{length, ◌-◌, ◌≤◌, take}
use Rattle.rh_bytes.specs.Counting.{Emitted}
use Rattle.rh_bytes.proofs.bytes.write_text.Given as goal

abbrev pub invariant-loop-at : goal.invariant-loop-at
invariant-loop-at g l = record {
  within : l.at ≤ length l.text;
  written : Emitted g.W.Write.contents l.fn.writer l.writer (take l.at l.text);
}

abbrev pub decreases-loop-at : goal.decreases-loop-at
decreases-loop-at g l = length l.text - l.at
