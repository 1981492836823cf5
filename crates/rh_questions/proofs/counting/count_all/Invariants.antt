use Rattle.std.proofs.Common.{◌≤◌, ◌-◌}
use Rattle.rh_questions.specs.Tallies.{AreCounts}
use Rattle.rh_questions.proofs.counting.count_all.Given as goal

abbrev pub invariant-loop-first : goal.invariant-loop-first
invariant-loop-first g l = record {
  inside : l.first ≤ l.parts;
  counts : AreCounts l.cut 0 l.first l.counts.items;
}

abbrev pub decreases-loop-first : goal.decreases-loop-first
decreases-loop-first g l = l.parts - l.first
