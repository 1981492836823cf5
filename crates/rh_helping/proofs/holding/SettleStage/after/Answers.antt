use Rattle.std.proofs.Common.{Bool, subst}
use Rattle.rh_helping.specs.Requested.{SettledFrom}
use Rattle.rh_helping.specs.Machine.{goal_of, left_on, settling_of}
use Rattle.rh_helping.specs.Settling.{LeadsOn}
use Rattle.rh_helping.proofs.Growing.{own_grows}
use Rattle.rh_helping.proofs.Leading.{goes_on}
use Rattle.rh_helping.proofs.Marking.{names_grows, try_grows}
use Rattle.rh_helping.proofs.holding.SettleStage.after.Goals as goal

pub after-requires : goal.after-requires
after-requires g c =
    let f = c.requires in
    record { follows = (c.args._shape.now, (f.before, (c.args._side.now.known.view, record { settling = f.stands.2; finds = f.finds; view_is = f.view_is }))) }

pub returns-then-after : goal.returns-then-after
returns-then-after g c =
    let f = c.requires in
    let s : SettledFrom c.args._shape.now f.before (settling_of c.args.machine.now.settling) c.args.found c.args._side.now.known.view = record { settling = f.stands.2; finds = f.finds; view_is = f.view_is } in
    let g = c.after.ensures.grows c.args._shape.now f.before c.args._side.now.known.view f.stands.0.owes s in
    let on = subst (λ (b : Bool). LeadsOn f.before c.args._side.now.known.view (settling_of c.args.machine.now.settling) (left_on b c.after.new.self)) c.if-after.true (c.after.ensures.leads c.args._shape.now f.before c.args._side.now.known.view s) in
    goes_on (own_grows _ _ g _ f.own, (try_grows c.args._shape.now _ _ g (goal_of c.args.machine.now) f.stands.0, names_grows c.args._shape.now _ _ g (goal_of c.args.machine.now) f.stands.1, on))

pub returns-else-after : goal.returns-else-after
returns-else-after g c =
    let f = c.requires in
    let s : SettledFrom c.args._shape.now f.before (settling_of c.args.machine.now.settling) c.args.found c.args._side.now.known.view = record { settling = f.stands.2; finds = f.finds; view_is = f.view_is } in
    let g = c.after.ensures.grows c.args._shape.now f.before c.args._side.now.known.view f.stands.0.owes s in
    goes_on (own_grows _ _ g _ f.own, (try_grows c.args._shape.now _ _ g (goal_of c.args.machine.now) f.stands.0, names_grows c.args._shape.now _ _ g (goal_of c.args.machine.now) f.stands.1))
