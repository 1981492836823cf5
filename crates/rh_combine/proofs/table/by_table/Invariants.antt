use Rattle.std.proofs.Common.{◌≡◌, ◌<◌, take}
use Rattle.std.specs.Prelude.{map}
use Rattle.rh_combine.specs.Combine.{meant}
use Rattle.rh_combine.specs.Table.{TakesLater}
use Rattle.rh_combine.proofs.table.by_table.Given as goal

abbrev pub invariant-loop-i : goal.invariant-loop-i
invariant-loop-i l = record {
  room : 0 < l.i → TakesLater l.how l.most l.set.bits;
  keys : l.set.keys ≡ meant l.how (map (λ k. k.now) (take l.i l.lists));
}
