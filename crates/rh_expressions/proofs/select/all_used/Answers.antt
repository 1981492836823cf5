use Rattle.std.proofs.Common.{◌≡◌, ◌∙◌, ◌-◌, ◌+◌, ap, arith, cond, suc, sym}
use Rattle.std.specs.Prelude.{Err}
use Rattle.rh_expressions.specs.Formulas.{formula_of}
use Rattle.rh_expressions.specs.Naming.{all_used}
use Rattle.rh_expressions.specs.declared.fault.SelectFault.TheVariants.{Unused}
use Rattle.rh_expressions.proofs.select.all_used.Goals as goal

pub loop-word-preserved : goal.loop-word-preserved
loop-word-preserved c =
    let f = formula_of c.args.expression.now in
    let word = c.loop-word.word in
    let left : c.args.lists - word ≡ suc (c.args.lists - (word + 1)) = omega (arith, c.loop-word-test.true) in
    c.loop-word.invariant ∙ ap (all_used f word) left
    ∙ ap (λ b. cond b (all_used f (word + 1) (c.args.lists - (word + 1))) (Err (Unused word))) (sym c.names_list.ensures ∙ c.if-not-names_list.false)
