use Rattle.std.proofs.Common.{◌≡◌, take}
use Rattle.rh_cutting.specs.Borders.{part_of}
use Rattle.rh_combine_workers.proofs.part.gather.Given as goal

abbrev pub invariant-loop-parts : goal.invariant-loop-parts
invariant-loop-parts l = l.keys.items ≡ part_of (take l.parts-index l.pieces) l.part
