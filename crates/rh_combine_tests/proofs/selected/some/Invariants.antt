use Rattle.std.specs.Prelude.{All}
use Rattle.rh_layout.specs.Key.{IsKey}
use Rattle.rh_combine_tests.proofs.selected.some.Given as goal

abbrev pub invariant-loop-i : goal.invariant-loop-i
invariant-loop-i l = All IsKey l.numbers.items
