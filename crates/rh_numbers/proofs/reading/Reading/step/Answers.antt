use Rattle.std.proofs.Common.{◌≡◌, ◌+◌, [], ◌∷◌, ap, sym, subst, ◌∙◌, rules}
use Rattle.std.proofs.lemmas.Result.{err_from_is_err_and}
use Rattle.rh_numbers.specs.declared.line_so_far.LineSoFar.TheVariants.{Other}
use Rattle.rh_numbers.specs.Parts.{keys_read, said_by}
use Rattle.rh_numbers.specs.Reading.{Stops, next, said_from}
use Rattle.rh_numbers.proofs.Head.{other_stays}
use Rattle.rh_numbers.proofs.Fronts.{stops_then}
use Rattle.rh_numbers.proofs.Spelling.{at_feed, walk}
use Rattle.rh_numbers.proofs.reading.Reading.step.Goals as goal

pub returns-in_err-end_line-clause-read : goal.returns-in_err-end_line-clause-read
returns-in_err-end_line-clause-read c =
    let p = err_from_is_err_and c.from_residual.result c.from_residual.ensures.1 in
    let old = c.args.self.now in
    let feed : c.args.b ≡ 10 = search rules in
    rw (p.1, p.2) (λ rest.
    subst (Stops c.in_err-end_line.field-0.0 (keys_read c.end_line.new.self))
    (sym (ap (λ b. said_by old (b ∷ rest)) feed ∙ at_feed old.keys.items old.line old.so_far rest))
    (stops_then c.in_err-end_line.field-0.0 (keys_read c.end_line.new.self) _ (old.line + 1) rest c.in_err-end_line.ensures.keys))

-- whatever comes behind it, the line is none
pub returns-in-Other-clause-read : goal.returns-in-Other-clause-read
returns-in-Other-clause-read c = λ rest.
    let old = c.args.self.now in
    let other : next old.so_far c.args.b ≡ Other = sym c.next-self.ensures ∙ c.in-Other.is in
    walk old.keys.items old.line old.so_far (c.args.b ∷ []) rest (c.if-b-eq10.false, tt)
    ∙ ap (λ s. said_from old.keys.items old.line s rest) other
    ∙ other_stays old.keys.items old.line rest
