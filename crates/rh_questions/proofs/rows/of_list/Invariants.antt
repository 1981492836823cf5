use Rattle.std.proofs.Common.{◌≡◌, take}
use Rattle.std.specs.Prelude.{map}
use Rattle.rh_questions.specs.Rows.{row_in}
use Rattle.rh_questions.proofs.rows.of_list.Given as goal

abbrev pub invariant-loop-number : goal.invariant-loop-number
invariant-loop-number l = l.rows.items ≡ map (row_in l.bit) (take l.number-index l.number-items)
