use Rattle.rh_questions.specs.Tallies.{AreCounts}
use Rattle.rh_questions.proofs.counting.count_parts.Given as goal

abbrev pub invariant-loop-part : goal.invariant-loop-part
invariant-loop-part l = AreCounts l.cut l.from l.part l.counts.items
