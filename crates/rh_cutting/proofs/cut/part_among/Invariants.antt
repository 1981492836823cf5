use Rattle.std.proofs.Common.{◌+◌, ◌<◌, ◌≤◌, length, slice_index}
use Rattle.rh_cutting.proofs.cut.part_among.Given as goal

abbrev pub invariant-loop-size : goal.invariant-loop-size
invariant-loop-size l = record {
  some : 0 < l.size;
  inside : l.low + l.size < length l.values;
  above : slice_index l.values l.low ≤ l.key;
  below : l.key < slice_index l.values (l.low + l.size);
}

abbrev pub decreases-loop-size : goal.decreases-loop-size
decreases-loop-size l = l.size
