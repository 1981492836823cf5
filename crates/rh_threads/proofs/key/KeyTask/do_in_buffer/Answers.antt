use Rattle.rh_threads.proofs.Keying.{done_on, stays_on, undone_on}
use Rattle.rh_threads.proofs.key.KeyTask.do_in_buffer.Goals as goal

pub returns-in-Done-clause-ends : goal.returns-in-Done-clause-ends
returns-in-Done-clause-ends g c = done_on c.loop.invariant.undone c.in-Done.ensures.tries

pub returns-in-Spent-clause-ends : goal.returns-in-Spent-clause-ends
returns-in-Spent-clause-ends g c = let t = c.in-Spent.ensures.tries in (undone_on c.loop.invariant.undone t.0, t.1)

pub loop-preserved-in-Again : goal.loop-preserved-in-Again
loop-preserved-in-Again g c =
    let h = c.loop.invariant in
    let e = c.in-Again.ensures in
    record { stays = stays_on h.stays.same e.stays; undone = undone_on h.undone e.tries.0; room = e.room }

pub loop-preserved : goal.loop-preserved
loop-preserved g c =
    let h = c.loop.invariant in
    let e = c.in-Longer.ensures in
    record { stays = stays_on h.stays.same e.stays; undone = undone_on h.undone e.tries.0; room = c.use_more.ensures.room }
