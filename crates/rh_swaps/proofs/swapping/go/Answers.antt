use Rattle.std.proofs.Common.{Some, subst}
use Rattle.rh_helping.specs.declared.machine.Progress.{Progress}
use Rattle.rh_helping.specs.Goal.{opened_by}
use Rattle.rh_helping.specs.Machine.{led, work_of}
use Rattle.rh_helping.specs.Stepping.{HasGoneOn}
use Rattle.rh_shared.specs.Sits.{Sits, SeatSteps}
use Rattle.rh_swaps.proofs.Going.{goes_by, goes_same}
use Rattle.rh_swaps.proofs.swapping.go.Goals as goal

pub returns-in-Some-On : goal.returns-in-Some-On
returns-in-Some-On g c =
    let n = c.step_at.new in
    goes_by (subst
    (λ (p : Progress). HasGoneOn Sits SeatSteps c.args.shape.now (opened_by (Some c.args.own)) (work_of c.args.machine.now) c.args.here.now c.args.side.now.known.view (led p n.self) n.table n.side.known.view)
    c.in-Some-On.field-0-is c.in-Some-On.ensures.goes)

pub returns-in-None : goal.returns-in-None
returns-in-None g c = let same = c.step_at.ensures.same c.in-None.is in goes_same same.0 same.1 same.2 c.requires.goes
