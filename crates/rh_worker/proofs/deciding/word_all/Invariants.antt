use Rattle.std.proofs.Common.{◌≡◌, ◌≤◌, ℕ, get_or, length, map, take}
use Rattle.rh_layout.specs.declared.entry.Entry.{Entry}
use Rattle.rh_worker.specs.Deciding.{worded}
use Rattle.rh_worker.proofs.deciding.word_all.Given as goal

abbrev pub invariant-loop-entry : goal.invariant-loop-entry
invariant-loop-entry l = record {
  len : length l.entries ≡ length l.fn.entries;
  made : take l.entry-index l.entries ≡ map worded (take l.entry-index l.fn.entries);
  kept : (k : ℕ) (d : Entry) → l.entry-index ≤ k → get_or l.entries k d ≡ get_or l.fn.entries k d;
}
