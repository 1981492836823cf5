use Rattle.std.proofs.Common.{◌≡◌, ℕ, List, take}
use Rattle.std.specs.Prelude.{filter, map}
use Rattle.rh_questions.specs.Rows.{AreRows, coded}
use Rattle.rh_questions.specs.Selections.{row_of, wants}
use Rattle.rh_questions.proofs.asking.wanted.Given as goal

abbrev pub invariant-loop-row : goal.invariant-loop-row
invariant-loop-row l = (lists : List (List ℕ)) → AreRows (λ k. coded 0 (row_of lists k)) l.rows → l.numbers.items ≡ filter (λ k. wants l.selection (row_of lists k)) (map (λ r. r.number) (take l.row-index l.rows))
