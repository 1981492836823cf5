use Rattle.std.specs.Prelude.{map}
use Rattle.rh_cutting.specs.Pieces.{keys_in}
use Rattle.rh_cutting.specs.Borders.{AreCut}
use Rattle.rh_cutting.proofs.lists.cut_lists.Given as goal

abbrev pub invariant-loop-list : goal.invariant-loop-list
invariant-loop-list g l = AreCut l.borders.values.items (map keys_in l.yielded) (map (λ v. v.items) l.cut.items)
