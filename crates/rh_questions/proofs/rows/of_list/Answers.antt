use Rattle.std.proofs.Common.{◌≡◌, ◌∙◌, ap, arith, cond, subst, sym}
use Rattle.std.specs.Prelude.{map}
use Rattle.rh_combine.specs.Combine.{has}
use Rattle.std.proofs.lemmas.List.{take_all}
use Rattle.rh_questions.specs.Rows.{AreRows, row_in}
use Rattle.rh_questions.proofs.RowLemmas.{rows_of_one}
use Rattle.rh_questions.proofs.rows.of_list.Goals as goal

pub returns : goal.returns
returns c =
    let all : c.loop-number.rows.items ≡ map (row_in c.args.bit) c.in_ok-numbers.numbers.items =
    c.loop-number.invariant ∙ ap (map (row_in c.args.bit)) (take_all c.loop-number.number-index c.deref-number-items.result.now (omega (arith, c.loop-number-test.false)) ∙ c.deref-number-items.ensures.value) in
    subst (AreRows (λ k. cond (has c.args.keys.now k) c.args.bit 0)) (sym all)
    (rows_of_one c.args.bit c.args.keys.now c.in_ok-numbers.numbers.items c.requires.some c.in_ok-numbers.ensures)
