use Rattle.std.proofs.Common.{◌≡◌, ◌<◌, ◌-◌, ◌^◌, length, take}
use Rattle.std.specs.Prelude.{sum_by}
use Rattle.rh_combine.proofs.ranges.total.Given as goal

abbrev pub invariant-loop-keys : goal.invariant-loop-keys
invariant-loop-keys l = l.sum < 2 ^ 64 - 1 → sum_by (λ k. length k.now) (take l.keys-index l.lists) ≡ l.sum
