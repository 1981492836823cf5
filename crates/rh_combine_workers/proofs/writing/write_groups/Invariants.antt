use Rattle.std.proofs.Common.{take}
use Rattle.std.specs.List.{flat_map}
use Rattle.rh_bytes.specs.Counting.{Emitted}
use Rattle.rh_combine_workers.proofs.writing.write_groups.Given as goal

abbrev pub invariant-loop-group : goal.invariant-loop-group
invariant-loop-group g l = Emitted g.W.Write.contents l.fn.writer l.writer (flat_map (λ x. x.bytes.items) (take l.group-index l.groups))
