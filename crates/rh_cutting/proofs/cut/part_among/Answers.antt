use Rattle.std.proofs.Common.{◌≡◌, ◌+◌, ap, arith, slice_index}
use Rattle.rh_cutting.proofs.cut.part_among.Goals as goal

pub returns : goal.returns
returns c =
    let at = c.loop-size.invariant in
    let one : c.loop-size.size ≡ 1 = omega (arith, at.some, c.loop-size-test.false) in
    let same = ap (λ n. slice_index c.args.values.now (c.loop-size.low + n)) one in
    record { inside = omega (arith, at.inside, one); above = at.above; below = omega (arith, at.below, same) }
