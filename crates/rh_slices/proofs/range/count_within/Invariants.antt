use Rattle.std.proofs.Common.{◌≡◌, ◌≤◌, length, take}
use Rattle.rh_layout.specs.Range.{within}
use Rattle.rh_slices.proofs.range.count_within.Given as goal

abbrev pub invariant-loop-number : goal.invariant-loop-number
invariant-loop-number l = record {
  few : l.count ≤ l.number-index;
  so_far : l.count ≡ length (within l.from l.to (take l.number-index l.numbers));
}
