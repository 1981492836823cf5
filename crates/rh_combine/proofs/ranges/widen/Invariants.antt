use Rattle.std.proofs.Common.{ℕ, ◌<◌, ◌≤◌, slice_index}
use Rattle.rh_combine.proofs.ranges.widen.Given as goal

abbrev pub invariant-loop-key : goal.invariant-loop-key
invariant-loop-key l = record {
  least : l.low ≤ l.least;
  past : l.past ≤ l.high;
  from : l.from ≤ l.low;
  to : l.high ≤ l.to;
  all : (k : ℕ) → k < l.key-index → (l.low ≤ slice_index l.keys k) × (slice_index l.keys k < l.high);
}
