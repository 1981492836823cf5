use Rattle.rh_shared.proofs.Clearing.{may_begin}
use Rattle.rh_shared.proofs.wiping.begin.Goals as goal

pub load-requires-clause-allowed : goal.load-requires-clause-allowed
load-requires-clause-allowed c =
    let t = c.args.table.now in
    let q = c.args.seat.now in
    may_begin t.shape t.inner.shared.table_id.slots q.id q.me c.requires.whole.empty c.requires.whole.all c.requires.rest
