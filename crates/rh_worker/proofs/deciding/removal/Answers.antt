use Rattle.std.proofs.Common.{◌≤◌, length, refl, arith}
use Rattle.rh_worker.proofs.Plans.{decides_absent, decides_out, valued_absent, valued_out}
use Rattle.rh_worker.proofs.deciding.removal.Goals as goal

pub plan-requires-clause-values : goal.plan-requires-clause-values
plan-requires-clause-values c =
    let seen = c.args.seen.now in
    let new = c.remove_entries.new.entries in
    let a = c.in-TakesOut in
    let room : length seen ≤ length new = let most = c.requires.can.room in omega (arith, most) in
    valued_out c.args.bits c.args.key c.requires.can.bits seen c.requires.values new a.count a.ensures.0 room _ refl a.ensures.1

pub returns-in-TakesOut : goal.returns-in-TakesOut
returns-in-TakesOut c =
    let seen = c.args.seen.now in
    let new = c.remove_entries.new.entries in
    let a = c.in-TakesOut in
    let room : length seen ≤ length new = let most = c.requires.can.room in omega (arith, most) in
    decides_out c.args.bits c.args.key c.requires.can.bits seen c.requires.values new a.count a.ensures.0 room _ _ refl c.plan.ensures.entries c.plan.result c.plan.ensures.plan a.ensures.1

pub plan-requires-in-ShowsAbsent-clause-values : goal.plan-requires-in-ShowsAbsent-clause-values
plan-requires-in-ShowsAbsent-clause-values c =
    let seen = c.args.seen.now in
    let new = c.remove_entries.new.entries in
    let a = c.in-ShowsAbsent in
    let room : length seen ≤ length new = let most = c.requires.can.room in omega (arith, most) in
    valued_absent c.args.bits c.args.key c.requires.can.bits seen c.requires.values new a.count a.ensures.0 room _ refl a.ensures.1

pub returns-in-ShowsAbsent : goal.returns-in-ShowsAbsent
returns-in-ShowsAbsent c =
    let seen = c.args.seen.now in
    let new = c.remove_entries.new.entries in
    let a = c.in-ShowsAbsent in
    let room : length seen ≤ length new = let most = c.requires.can.room in omega (arith, most) in
    decides_absent c.args.bits c.args.key c.requires.can.bits seen c.requires.values new a.count a.ensures.0 room _ _ refl c.plan-in-ShowsAbsent.ensures.entries c.plan-in-ShowsAbsent.result c.plan-in-ShowsAbsent.ensures.plan a.ensures.1
