use Rattle.std.proofs.Common.{arith, subst}
use Rattle.rh_layout.specs.Key.{IsKey}
use Rattle.rh_numbers.proofs.FewDigits.{plain_line}
use Rattle.rh_numbers.proofs.plain.plain_line.Goals as goal

pub returns-clause-read : goal.returns-clause-read
returns-clause-read c =
    let line = c.digits_of-number.result in
    let begin = c.digits_of-number.ensures.begin in
    λ keys at more. plain_line c.args.text.now line.length begin.are (omega arith) begin.within (subst IsKey begin.number (omega arith)) keys at line.number c.in_ok-next.next more begin.number c.in_ok-next.ensures.ends
