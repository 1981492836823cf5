use Rattle.std.proofs.Common.{◌≡◌, ◌≤◌, ◌<◌, ◌+◌, ◌*◌}
use Rattle.rh_numbers.specs.declared.limits.TheConstants.{PART_BYTES}
use Rattle.rh_checks.proofs.Parts.{Going}
use Rattle.rh_checks.proofs.text.find_text.Given as goal

abbrev pub invariant-loop : goal.invariant-loop
invariant-loop g l = record {
  going : Going l.fn.begun (g.R.Read.remaining l.fn.reader.inner) (g.R.Read.remaining l.reader.inner) l.walk l.counter;
  line : l.walk.line ≤ 1 + PART_BYTES + PART_BYTES * l.counter;
  few : l.walk.more < l.walk.line;
  fine : l.reader.failures ≡ l.fn.reader.failures;
}
