use Rattle.std.proofs.Common.{◌≡◌, ◌<◌, ◌≤◌, ℕ, false, length}
use Rattle.std.specs.Prelude.{◌||◌, slice_index_or}
use Rattle.rh_threads.proofs.hands.mark.Given as goal

abbrev pub invariant-loop-position : goal.invariant-loop-position
invariant-loop-position l = record {
  within : l.position ≤ l.both;
  long : length l.found ≡ length l.fn.found;
  marked : (p : ℕ) → p < l.position → slice_index_or l.found p false ≡ (slice_index_or l.fn.found p false || slice_index_or l.marks p false);
  later : (p : ℕ) → l.position ≤ p → slice_index_or l.found p false ≡ slice_index_or l.fn.found p false;
}
