use Rattle.std.proofs.Common.{ℕ, ◌+◌, ap}
use Rattle.rh_shared.proofs.Clearing.{may_clear}
use Rattle.rh_shared.proofs.wiping.clear.Goals as goal

pub store-requires-clause-allowed : goal.store-requires-clause-allowed
store-requires-clause-allowed c =
    let t = c.args.table.now in
    let q = c.args.seat.now in
    let w = c.requires.wiping in
    may_clear t.shape t.inner.shared.table_id.slots q.id q.me c.requires.whole.empty c.requires.whole.all w.0 c.args.row _ c.requires.row (ap (λ (n : ℕ). n + c.args.row) c.cells.ensures) w.1
