use Rattle.std.proofs.Common.{length, ◌<◌, ◌+◌}
use Rattle.rh_cutting.specs.Borders.{NameParts}
use Rattle.rh_cutting.proofs.hints.hints_around.Given as goal

abbrev pub invariant-loop-slot : goal.invariant-loop-slot
invariant-loop-slot l = record {
  part : l.part + 1 < length l.values;
  inside : NameParts l.values l.parts.items;
}
