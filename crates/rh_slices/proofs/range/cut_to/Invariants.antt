use Rattle.rh_layout.specs.Range.{stands}
use Rattle.rh_slices.proofs.Ranges.{PutSoFar}
use Rattle.rh_slices.proofs.range.cut_to.Given as goal

abbrev pub invariant-loop-number : goal.invariant-loop-number
invariant-loop-number l = PutSoFar (stands l.from l.to) l.numbers l.fn.into l.into l.at l.number-index
