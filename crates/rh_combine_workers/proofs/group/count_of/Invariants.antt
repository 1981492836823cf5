use Rattle.std.proofs.Common.{◌≡◌, ◌-◌, ◌^◌, take}
use Rattle.std.specs.Prelude.{min, sum_by}
use Rattle.rh_combine_workers.proofs.group.count_of.Given as goal

abbrev pub invariant-loop-group : goal.invariant-loop-group
invariant-loop-group l = l.sum ≡ min (sum_by (λ g. g.count) (take l.group-index l.groups)) (2 ^ 64 - 1)
