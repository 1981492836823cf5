use Rattle.std.proofs.Common.{◌≡◌, ◌≤◌, ℕ, get_or, map, take}
use Rattle.rh_snapshot.specs.Snapshot.{cell_of_first}
use Rattle.rh_snapshot.proofs.cells.make_cells.Given as goal

abbrev pub invariant-loop-number : goal.invariant-loop-number
invariant-loop-number l = record {
  made : take l.number-index l.numbers ≡ map cell_of_first (take l.number-index l.fn.numbers);
  kept : (k : ℕ) → l.number-index ≤ k → get_or l.numbers k 0 ≡ get_or l.fn.numbers k 0;
}
