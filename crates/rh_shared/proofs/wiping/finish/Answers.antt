use Rattle.rh_shared.proofs.Clearing.{may_finish}
use Rattle.rh_shared.proofs.wiping.finish.Goals as goal

pub load-requires-clause-allowed : goal.load-requires-clause-allowed
load-requires-clause-allowed c =
    let t = c.args.table.now in
    let q = c.args.seat.now in
    let w = c.requires.wiping in
    may_finish t.shape t.inner.shared.table_id.slots q.id q.me c.requires.whole.empty c.requires.whole.all w.0 w.1
