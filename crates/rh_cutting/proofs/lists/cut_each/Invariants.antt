use Rattle.std.proofs.Common.{take}
use Rattle.std.specs.List.{flat_map}
use Rattle.rh_cutting.specs.Borders.{IsCut}
use Rattle.rh_cutting.proofs.lists.cut_each.Given as goal

abbrev pub invariant-loop-piece : goal.invariant-loop-piece
invariant-loop-piece l = IsCut l.borders.values.items (flat_map (λ k. k.items) (take l.piece-index l.pieces)) l.cut.items
