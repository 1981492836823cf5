use Rattle.std.proofs.Common.{◌+◌, ◌-◌, length}
use Rattle.rh_questions.proofs.MergeLemmas.{IsMerged}
use Rattle.rh_questions.proofs.rows.merge.Given as goal

abbrev pub invariant-loop-i : goal.invariant-loop-i
invariant-loop-i l = IsMerged l.some l.others l.i l.j l.all.items

abbrev pub decreases-loop-i : goal.decreases-loop-i
decreases-loop-i l = (length l.some - l.i) + (length l.others - l.j)
