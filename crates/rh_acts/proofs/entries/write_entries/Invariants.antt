use Rattle.std.proofs.Common.{◌≡◌, ℕ, ◌^◌, ◌<◌, length, get_or}
use Rattle.rh_layout.specs.declared.entry.Entry.{Entry}
use Rattle.rh_acts.specs.CellOrder.{entry_of, offset_at}
use Rattle.rh_acts.specs.Change.{changed}
use Rattle.rh_acts.proofs.entries.write_entries.Given as goal

abbrev pub invariant-loop-turn : goal.invariant-loop-turn
invariant-loop-turn l = (t : ℕ) (d : Entry) → t < l.turn → get_or l.entries t d ≡ entry_of (2 ^ l.bits) l.first l.olds (changed l.change l.olds) (offset_at (2 ^ l.bits) l.first (length l.olds) t)
