use Rattle.std.proofs.Common.{◌≡◌, ◌≤◌, ◌++◌, ℕ, List, get_or, take}
use Rattle.rh_lists.specs.Blanks.{blanked}
use Rattle.rh_lists.proofs.blanks.blank.Given as goal

abbrev pub invariant-loop-b : goal.invariant-loop-b
invariant-loop-b l = record {
  blanked : (rest : List ℕ) → blanked l.fn.lines (take l.b-index l.fn.bytes ++ rest) ≡ take l.b-index l.bytes ++ blanked l.lines rest;
  kept : (k : ℕ) → l.b-index ≤ k → get_or l.bytes k 0 ≡ get_or l.fn.bytes k 0;
}
