use Rattle.std.proofs.Common.{◌≤◌, take}
use Rattle.std.specs.Prelude.{map}
use Rattle.rh_combine.specs.Combine.{AllWithin}
use Rattle.rh_combine.proofs.ranges.extent.Given as goal

abbrev pub invariant-loop-keys : goal.invariant-loop-keys
invariant-loop-keys l = record {
  all : AllWithin l.least l.past (map (λ k. k.now) (take l.keys-index l.lists));
  from : l.from ≤ l.least;
  to : l.past ≤ l.to;
}
