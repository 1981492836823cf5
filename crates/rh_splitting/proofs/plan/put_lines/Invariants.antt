use Rattle.std.proofs.Common.{◌≡◌, take}
use Rattle.rh_bytes.specs.Counting.{Emitted}
use Rattle.rh_splitting.specs.Plan.{part_lines}
use Rattle.rh_splitting.proofs.plan.put_lines.Given as goal

abbrev pub invariant-loop-part : goal.invariant-loop-part
invariant-loop-part g l = record {
  number : l.number ≡ l.part-index;
  written : Emitted g.W.Write.contents l.fn.writer l.writer (part_lines 0 (take l.part-index l.parts));
}
