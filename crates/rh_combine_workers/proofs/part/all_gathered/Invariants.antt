use Rattle.std.proofs.Common.{◌≡◌, take}
use Rattle.std.specs.Prelude.{map}
use Rattle.rh_cutting.specs.Borders.{part_of}
use Rattle.rh_combine_workers.proofs.part.all_gathered.Given as goal

abbrev pub invariant-loop-pieces : goal.invariant-loop-pieces
invariant-loop-pieces l = map (λ k. k.items) l.all.items ≡ map (λ k. part_of k.items l.part) (take l.pieces-index l.lists)
