use Rattle.std.proofs.Common.{◌∙◌, length-set, arith}
use Rattle.std.specs.Mem.Slots.{slots_items}
use Rattle.rh_shared.proofs.Made.{closes_with, leaves, one_more, value_given}
use Rattle.rh_shared.proofs.ends.close.Goals as goal

pub unwrap-value-requires : goal.unwrap-value-requires
unwrap-value-requires c =
    let t = c.args.table in
    let q = c.args.seat in
    let m = closes_with t q _ _ c.requires.all c.requires.rest c.close_with-closed.ensures.values.2 in
    let l = c.loop-cell in
    let sized = l.invariant.sized in
    let size = c.requires.sized in
    let less = c.loop-cell-test.true in
    value_given t.shape q.inner.me.0 (slots_items c.close_with-closed.result.words) m.0 m.1 l.cell c.word.result c.plain_value.result (omega (arith, sized, size, less)) c.word.ensures c.plain_value.ensures

pub loop-cell-preserved : goal.loop-cell-preserved
loop-cell-preserved c =
    let t = c.args.table in
    let q = c.args.seat in
    let m = closes_with t q _ _ c.requires.all c.requires.rest c.close_with-closed.ensures.values.2 in
    let l = c.loop-cell in
    let sized = l.invariant.sized in
    let size = c.requires.sized in
    let less = c.loop-cell-test.true in
    record {
      sized = length-set l.cells l.cell c.unwrap-value.result ∙ sized;
      values = one_more t.shape q.inner.me.0 (slots_items c.close_with-closed.result.words) m.0 m.1 l.cells l.cell c.unwrap-value.result c.word.result c.plain_value.result (omega (arith, sized, size, less)) (omega (arith, sized, less))
          c.word.ensures c.plain_value.ensures c.unwrap-value.ensures l.invariant.values;
    }

pub returns : goal.returns
returns c =
    let t = c.args.table in
    let q = c.args.seat in
    let m = closes_with t q _ _ c.requires.all c.requires.rest c.close_with-closed.ensures.values.2 in
    let l = c.loop-cell in
    let sized = l.invariant.sized in
    let size = c.requires.sized in
    let more = c.loop-cell-test.false in
    leaves t.shape q.inner.me.0 (slots_items c.close_with-closed.result.words) m.0 m.1 l.cells m.2 (sized ∙ size) (λ i inside. l.invariant.values i (omega (arith, sized, size, more, inside)))
