use Rattle.std.proofs.Common.{◌≡◌, ◌-◌}
use Rattle.rh_expressions.specs.Formulas.{formula_of}
use Rattle.rh_expressions.specs.Naming.{all_used}
use Rattle.rh_expressions.proofs.select.all_used.Given as goal

abbrev pub invariant-loop-word : goal.invariant-loop-word
invariant-loop-word l = all_used (formula_of l.expression) 0 l.lists ≡ all_used (formula_of l.expression) l.word (l.lists - l.word)
