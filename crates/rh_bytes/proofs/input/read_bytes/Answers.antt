use Rattle.std.proofs.Common.{rules}
use Rattle.rh_bytes.specs.Input.{always}
use Rattle.rh_bytes.proofs.Reading.{Reads-full, Reads-short}
use Rattle.rh_bytes.proofs.input.read_bytes.Goals as goal

pub returns-then-n-buf : goal.returns-then-n-buf
returns-then-n-buf g c =
    rw c.short.ensures (search (rules, Reads-short g.E.InputFault.is_silent g.E.InputFault.short_fault _ _ c.fill.new.buf c.in-Some.n (always {X = Unit {0}} c.fill.new.buf) c.if-n-buf.true c.in-Some.ensures.bytes (c.in-Some.ensures.end c.if-n-buf.true)))

pub returns : goal.returns
returns g c = search (rules, Reads-full g.E.InputFault.is_silent g.E.InputFault.short_fault _ _ c.fill.new.buf c.in-Some.n c.if-n-buf.false (λ i. (c.type_inv.buf i).fits) c.in-Some.ensures.bytes)
