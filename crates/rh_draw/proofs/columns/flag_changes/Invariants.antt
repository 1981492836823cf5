use Rattle.std.proofs.Common.{length, drop}
use Rattle.rh_draw.proofs.Flagging.{AreFlagged}
use Rattle.rh_draw.proofs.columns.flag_changes.Given as goal

abbrev pub invariant-loop-record : goal.invariant-loop-record
invariant-loop-record l = AreFlagged l.shape l.window l.fn.words l.records (length l.fn.flags) l.words l.flags (drop l.record-index l.records)
