use Rattle.std.proofs.Common.{ℕ, suc, ◌∙◌, ap, length-take-le, take, arith}
use Rattle.rh_order.specs.History.{act_of}
use Rattle.rh_worker.proofs.OpenStep.{are_entries, rising_of}
use Rattle.rh_threads.proofs.Keying.{done_on, done_as_read, swap_done, swap_failed, swap_given_up, undone_on}
use Rattle.rh_threads.proofs.key.KeyTask.try_key.Goals as goal

pub kcas-requires-clause-entries : goal.kcas-requires-clause-entries
kcas-requires-clause-entries g c =
    let task = c.args.self.now in
    let z = task.table.now.shape in
    let plan = c.in-Acts.plan in
    let es = c.scan.new.entries in
    let p = c.in-Acts.ensures.scans.leads in
    let size = length-take-le plan.entries es p.within in
    let some = p.some in
    are_entries z (take plan.entries es) (omega (arith, size, some)) (rising_of task.kind z.bits task.key plan.changes (act_of (take plan.entries es)) p.act) p.fit

pub returns-in-Done-clause-tries : goal.returns-in-Done-clause-tries
returns-in-Done-clause-tries g c =
    let e = c.in-Done.ensures.scans in
    done_as_read e.undone e.leads.0 e.leads.1

pub returns-in-Done-kcas-clause-tries : goal.returns-in-Done-kcas-clause-tries
returns-in-Done-kcas-clause-tries g c =
    let plan = c.in-Acts.plan in
    let e = c.in-Acts.ensures in
    let s = c.in-Done-kcas.ensures in
    done_on e.scans.undone (swap_done e.stays.rests.rested s.stays.rests.rested (take plan.entries c.scan.new.entries) plan.changes e.scans.leads.act s.swaps s.swaps.became.0 s.swaps.became.1)

pub returns-in-Failed-clause-tries : goal.returns-in-Failed-clause-tries
returns-in-Failed-clause-tries g c =
    let plan = c.in-Acts.plan in
    let e = c.in-Acts.ensures in
    let s = c.in-Failed.ensures in (
      undone_on e.scans.undone (swap_failed e.stays.rests.rested s.stays.rests.rested (take plan.entries c.scan.new.entries) plan.changes e.scans.leads.act s.swaps s.swaps.became.0 s.swaps.became.1),
      s.swaps.became.0.next_number ∙ ap (λ (n : ℕ). suc n) e.scans.unopened,
    )

pub returns-in-Spent-kcas-clause-tries : goal.returns-in-Spent-kcas-clause-tries
returns-in-Spent-kcas-clause-tries g c =
    let plan = c.in-Acts.plan in
    let e = c.in-Acts.ensures in
    let s = c.in-Spent-kcas.ensures in
    let up = swap_given_up e.stays.rests.rested s.stays.rests.rested (take plan.entries c.scan.new.entries) plan.changes e.scans.leads.act s.swaps s.swaps.became.0 s.swaps.became.1 s.swaps.became.2 in
    (undone_on e.scans.undone up.0, up.1)
