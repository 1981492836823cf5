use Rattle.std.proofs.Common.{◌≡◌, length}
use Rattle.std.specs.Prelude.{All}
use Rattle.rh_splitting.specs.Plan.{IsCounting}
use Rattle.rh_splitting.proofs.plan.counting_parts.Given as goal

abbrev pub invariant-loop : goal.invariant-loop
invariant-loop l = record {
  many : length l.parts.items ≡ l.counter;
  counting : All IsCounting l.parts.items;
}
