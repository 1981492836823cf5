use Rattle.std.proofs.Common.{◌≡◌, ◌<◌, ℕ, false, length}
use Rattle.std.specs.Prelude.{◌||◌, slice_index_or}
use Rattle.rh_threads.specs.Rounds.{is_marked}
use Rattle.rh_threads.proofs.hands.mark_all.Given as goal

abbrev pub invariant-loop-hand : goal.invariant-loop-hand
invariant-loop-hand l = record {
  long : length l.found ≡ length l.fn.found;
  marked : (p : ℕ) → p < length l.fn.found
      → (slice_index_or l.found p false || is_marked l.hands p) ≡ (slice_index_or l.fn.found p false || is_marked l.fn.hands p);
}

abbrev pub decreases-loop-hand : goal.decreases-loop-hand
decreases-loop-hand l = length l.hands
