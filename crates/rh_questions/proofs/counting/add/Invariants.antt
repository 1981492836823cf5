use Rattle.std.proofs.Common.{◌≡◌, ℕ, ◌+◌, ◌<◌, ◌≤◌, get_or, length}
use Rattle.rh_questions.specs.Tallies.{IsCount}
use Rattle.rh_questions.proofs.counting.add.Given as goal

abbrev pub invariant-loop-place : goal.invariant-loop-place
invariant-loop-place l = record {
  len : length l.counts.items ≡ length l.fn.counts.items;
  sums : (c m n : ℕ) → c < l.place → IsCount l.fn.counts.items c m → IsCount l.more c n → IsCount l.counts.items c (m + n);
  others : (c : ℕ) → l.place ≤ c → get_or l.counts.items c 0 ≡ get_or l.fn.counts.items c 0;
}
