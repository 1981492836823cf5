use Rattle.std.proofs.Common.{◌≡◌, ◌≤◌, ◌<◌, ◌+◌, ◌++◌, List, ℕ, take}
use Rattle.rh_checks.specs.Walk.{findings_on}
use Rattle.rh_checks.proofs.walk.Walk.read.Given as goal

abbrev pub invariant-loop-b : goal.invariant-loop-b
invariant-loop-b l = record {
  line : l.self.line ≤ l.fn.self.line + l.b-index;
  few : l.self.more < l.self.line;
  on : (rest : List ℕ) → findings_on l.fn.self (take l.b-index l.bytes ++ rest) ≡ findings_on l.self rest;
}
