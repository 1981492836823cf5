use Rattle.std.proofs.Common.{◌≡◌, ◌≤◌, take}
use Rattle.rh_draw.specs.Records.{count_from}
use Rattle.rh_draw.proofs.records.steps_from.Given as goal

abbrev pub invariant-loop-record : goal.invariant-loop-record
invariant-loop-record l = (l.count ≡ count_from l.from (take l.record-index l.records)) × (l.count ≤ l.record-index)
