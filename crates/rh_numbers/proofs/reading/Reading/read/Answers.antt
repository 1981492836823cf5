use Rattle.std.proofs.Common.{◌++◌, suc, get_or, drop, ◌∷◌, ap, sym, ◌∙◌, subst, rules}
use Rattle.std.proofs.lemmas.Result.{err_from_is_err_and}
use Rattle.rh_numbers.specs.Parts.{keys_read, said_by}
use Rattle.rh_numbers.specs.Reading.{Stops}
use Rattle.rh_numbers.proofs.Parts.{at_place}
use Rattle.rh_numbers.proofs.reading.Reading.read.Goals as goal

pub returns-in_err-step-clause-read : goal.returns-in_err-step-clause-read
returns-in_err-step-clause-read c =
    let p = err_from_is_err_and c.from_residual.result c.from_residual.ensures.1 in
    let i = c.loop-b.b-index in
    let bytes = c.args.bytes.now in
    rw (p.1, p.2) (λ rest.
    subst (Stops c.in_err-step.field-0.0 (keys_read c.step.new.self))
    (sym (ap (said_by c.args.self.now) (at_place bytes rest i (search rules)) ∙ c.loop-b.invariant.read (get_or bytes i 0 ∷ (drop (suc i) bytes ++ rest))))
    (c.in_err-step.ensures.read (drop (suc i) bytes ++ rest)))
