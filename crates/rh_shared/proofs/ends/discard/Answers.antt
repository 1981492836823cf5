use Rattle.std.specs.Mem.Slots.{slots_items}
use Rattle.rh_shared.proofs.Made.{closes_with, some_values}
use Rattle.rh_shared.proofs.ends.discard.Goals as goal

pub returns : goal.returns
returns c =
    let t = c.args.table in
    let q = c.args.seat in
    let m = closes_with t q _ _ c.requires.all c.requires.rest c.close_with.ensures.values.2 in
    some_values t.shape q.inner.me.0 (slots_items c.close_with.result.words) m.0 m.1 m.2
