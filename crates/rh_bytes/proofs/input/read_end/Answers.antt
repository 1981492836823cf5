use Rattle.std.proofs.Common.{rules, [], List, ℕ}
use Rattle.rh_bytes.proofs.Reading.{end_long, end_ok}
use Rattle.rh_bytes.proofs.input.read_end.Goals as goal

pub returns-then-n-gt0 : goal.returns-then-n-gt0
returns-then-n-gt0 g c =
    let none : Unit {0} → List ℕ = λ u. [] in
    rw c.long.ensures (search (rules, end_long g.E.InputFault.is_silent g.E.InputFault.long_fault _ _ c.fill.new.buf c.in-Some.n none c.if-n-gt0.true (search rules) c.in-Some.ensures.bytes))

pub returns : goal.returns
returns g c = search (rules, end_ok g.E.InputFault.is_silent g.E.InputFault.long_fault _ _ c.fill.new.buf c.in-Some.n c.if-n-gt0.false c.in-Some.ensures.bytes (c.in-Some.ensures.end (search rules)))
