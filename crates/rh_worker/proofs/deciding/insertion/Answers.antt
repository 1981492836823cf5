use Rattle.std.proofs.Common.{◌≤◌, length, refl, arith}
use Rattle.rh_worker.proofs.Plans.{decides_in, valued_in}
use Rattle.rh_worker.proofs.deciding.insertion.Goals as goal

pub returns-in-Held : goal.returns-in-Held
returns-in-Held c = (refl, c.in-Held.ensures)

pub plan-requires-clause-values : goal.plan-requires-clause-values
plan-requires-clause-values c =
    let seen = c.args.seen.now in
    let new = c.insert_entries.new.entries in
    let a = c.in-PutsIn in
    let room : length seen ≤ length new = let most = c.requires.can.room in omega (arith, most) in
    valued_in c.args.bits c.args.key c.requires.can.bits seen c.requires.values new a.count a.ensures.0 room _ refl c.requires.can.key a.ensures.1

pub returns-in-PutsIn : goal.returns-in-PutsIn
returns-in-PutsIn c =
    let seen = c.args.seen.now in
    let new = c.insert_entries.new.entries in
    let a = c.in-PutsIn in
    let room : length seen ≤ length new = let most = c.requires.can.room in omega (arith, most) in
    decides_in c.args.bits c.args.key c.requires.can.bits seen c.requires.values new a.count a.ensures.0 room _ _ refl c.plan.ensures.entries c.plan.result c.requires.can.key c.plan.ensures.plan a.ensures.1
