use Rattle.std.proofs.Common.{◌≡◌, min, max, rules, subst}
use Rattle.rh_checks.specs.Sums.{IsSpan}
use Rattle.rh_checks.proofs.Spans.{one_more}
use Rattle.rh_checks.proofs.sums.with_number.Goals as goal

pub returns-in-Some : goal.returns-in-Some
returns-in-Some c = λ before is.
    let least : c.min.result ≡ min c.in-Some.field-0.least c.args.number = search rules in
    let greatest : c.max.result ≡ max c.in-Some.field-0.greatest c.args.number = search rules in
    one_more before c.args.number c.in-Some.field-0 (record { least = c.min.result; greatest = c.max.result }) (subst (IsSpan before) c.in-Some.is is) least greatest
