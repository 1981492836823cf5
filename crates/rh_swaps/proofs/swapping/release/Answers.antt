use Rattle.std.proofs.Common.{Some, subst}
use Rattle.rh_helping.specs.declared.machine.Progress.{Progress}
use Rattle.rh_helping.specs.Goal.{opened_by}
use Rattle.rh_helping.specs.Machine.{led, work_of}
use Rattle.rh_helping.specs.Stepping.{HasGoneOn}
use Rattle.rh_shared.specs.Sits.{Sits, SeatSteps}
use Rattle.rh_swaps.proofs.Going.{goes_by, goes_first, goes_same, goes_then}
use Rattle.rh_swaps.proofs.Noting.{closes}
use Rattle.rh_swaps.proofs.swapping.release.Goals as goal

pub loop-init : goal.loop-init
loop-init c = goes_first c.requires

pub loop-preserved : goal.loop-preserved
loop-preserved c =
    let l = c.loop in
    let n = c.step_at.new in
    goes_then l.invariant (goes_by (subst
    (λ (p : Progress). HasGoneOn Sits SeatSteps c.args.shape.now (opened_by (Some c.args.own)) (work_of l.machine) l.here l.side.known.view (led p n.self) n.table n.side.known.view)
    c.in-Some-On.field-0-is c.in-Some-On.ensures.goes))

pub returns-in-Some-Closed : goal.returns-in-Some-Closed
returns-in-Some-Closed c =
    let l = c.loop in
    let n = c.step_at.new in
    closes l.invariant.stays l.invariant.noted (subst
    (λ (p : Progress). HasGoneOn Sits SeatSteps c.args.shape.now (opened_by (Some c.args.own)) (work_of l.machine) l.here l.side.known.view (led p n.self) n.table n.side.known.view)
    c.in-Some-Closed.field-0-is c.in-Some-Closed.ensures.goes)

pub returns-in-None : goal.returns-in-None
returns-in-None c =
    let same = c.step_at.ensures.same c.in-None.is in goes_then c.loop.invariant (goes_same same.0 same.1 same.2 c.loop.invariant.may)
