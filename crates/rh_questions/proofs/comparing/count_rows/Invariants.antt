use Rattle.std.proofs.Common.{◌≡◌, ℕ, ◌+◌, ◌<◌, count_by, length, take}
use Rattle.std.specs.Prelude.{◌==◌}
use Rattle.rh_questions.specs.Tallies.{IsCount}
use Rattle.rh_questions.proofs.comparing.count_rows.Given as goal

abbrev pub invariant-loop-row : goal.invariant-loop-row
invariant-loop-row l = record {
  len : length l.counts.items ≡ length l.fn.counts.items;
  counts : (c n : ℕ) → c < length l.fn.counts.items → IsCount l.fn.counts.items c n → IsCount l.counts.items c (n + count_by (λ r. r.lists == c) (take l.row-index l.rows));
}
