use Rattle.std.proofs.Common.{◌≡◌, ◌-◌}
use Rattle.std.specs.Prelude.{map}
use Rattle.rh_layout.specs.Range.{within}
use Rattle.rh_combine.specs.Combine.{answer}
use Rattle.rh_combine.specs.Grid.{edge}
use Rattle.rh_combine.proofs.ranges.+of_lists.Given as goal

abbrev pub decreases-of_lists : goal.decreases-of_lists
decreases-of_lists l = l.to - l.from

abbrev pub invariant-loop-part : goal.invariant-loop-part
invariant-loop-part l = l.out.items ≡ within l.grid.from (edge l.grid l.part) (answer l.how (map (λ k. k.now) l.lists))
