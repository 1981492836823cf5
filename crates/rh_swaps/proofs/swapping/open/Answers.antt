use Rattle.std.proofs.Common.{add-one}
use Rattle.rh_helping.specs.declared.opening.Opening.TheVariants as opening
use Rattle.rh_swaps.proofs.Opened.{new_on, opens, steps_on}
use Rattle.rh_swaps.proofs.swapping.open.Goals as goal

pub loop-at-preserved : goal.loop-at-preserved
loop-at-preserved c =
    let e = c.loop-at.at in
    let cell = c.step-in-loop-at in
    let old = c.step-in-loop-at-2 in
    let new = c.step-in-loop-at-3 in
    let a = steps_on cell.result (opening.Old e) c.loop-at.invariant.way cell.ensures.made cell.ensures.leads cell.ensures.next in
    let b = steps_on old.result (opening.New e) a.0 old.ensures.made old.ensures.leads old.ensures.next in
    let d = new_on new.result e c.loop-at-test.true b.0 new.ensures.made new.ensures.leads new.ensures.next in
    record { way = d.0; written = rw add-one d.1 }

pub returns-clause-opens : goal.returns-clause-opens
returns-clause-opens c =
    let s = c.step-3 in
    (opens s.result c.loop-at.invariant.way s.ensures.made s.ensures.leads s.ensures.next).1
