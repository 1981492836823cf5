use Rattle.std.proofs.Common.{◌≡◌, ◌++◌, drop}
use Rattle.rh_questions.specs.Rankings.{occurring}
use Rattle.rh_questions.proofs.ranking.occurring.Given as goal

abbrev pub invariant-loop-place : goal.invariant-loop-place
invariant-loop-place l = occurring 0 l.counts ≡ l.found.items ++ occurring l.place (drop l.place l.counts)
