use Rattle.std.proofs.Common.{◌≡◌, ◌≤◌}
use Rattle.std.specs.FinSet.{contains}
use Rattle.std.proofs.lemmas.List.Filters.{FiltersInPlace}
use Rattle.rh_layout.specs.Layout.{Keys}
use Rattle.rh_ledger.specs.Phase.{looked_up}
use Rattle.rh_runner.specs.Lists.{is_chosen}
use Rattle.rh_runner.proofs.chosen.choose.Given as goal

abbrev pub invariant-loop-i : goal.invariant-loop-i
invariant-loop-i l = record {
  behind : l.n ≤ l.i;
  moved : (S : Keys) → l.found ≡ looked_up S l.fn.keys → FiltersInPlace (λ k. is_chosen l.which (contains S k)) l.fn.keys l.keys l.n l.i;
}
