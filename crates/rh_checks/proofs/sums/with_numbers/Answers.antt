use Rattle.std.proofs.Common.{◌++◌, ◌∷◌, [], Some, take, get_or, ap, sym, subst, ◌∙◌, append_assoc, rules}
use Rattle.std.proofs.lemmas.List.{take_all, take_more}
use Rattle.rh_checks.specs.Sums.{IsSpan}
use Rattle.rh_checks.proofs.sums.with_numbers.Goals as goal

pub loop-number-preserved : goal.loop-number-preserved
loop-number-preserved c = λ before is.
    let numbers = c.args.numbers.now in
    let i = c.loop-number.number-index in
    subst (λ l. IsSpan l (Some c.with_number.result))
    (append_assoc before (take i numbers) (get_or numbers i 0 ∷ []) ∙ ap (λ l. before ++ l) (sym (take_more numbers i 0 (search rules))))
    (c.with_number.ensures (before ++ take i numbers) (c.loop-number.invariant before is))

pub returns : goal.returns
returns c = λ before is.
    subst (λ l. IsSpan (before ++ l) c.loop-number.span) (take_all c.loop-number.number-index c.args.numbers.now (search rules)) (c.loop-number.invariant before is)
