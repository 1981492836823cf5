use Rattle.std.proofs.Common.{map, take}
use Rattle.rh_slices.specs.Slices.{AreKeys}
use Rattle.rh_slices.proofs.combining.test_keys.Given as goal

abbrev pub invariant-loop-list : goal.invariant-loop-list
invariant-loop-list l = AreKeys (take l.list (map (λ list. list.now) l.lists))
