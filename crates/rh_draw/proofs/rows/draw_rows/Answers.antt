use Rattle.rh_draw.proofs.Showing.{all_rows, none_alone, nothing, one_row}
use Rattle.std.proofs.Common.{[], refl}
use Rattle.rh_draw.proofs.rows.draw_rows.Goals as goal

pub loop-record-init : goal.loop-record-init
loop-record-init c = ([], nothing _, rw (c.in_ok-whose.ensures.items_if_clones_equal (none_alone _ (λ owner e. e))) refl)

pub loop-record-preserved : goal.loop-record-preserved
loop-record-preserved c =
    one_row c.args.view.now.window c.args.view.now.shape.workers c.args.records.now c.loop-record.record-index _ _ _ _ c.loop-record-test.true
    c.in_ok-draw_record.ensures.goes_on c.loop-record.invariant c.in_ok-draw_record.ensures.drawn

pub returns : goal.returns
returns c = all_rows c.args.view.now.window c.args.view.now.shape.workers c.args.records.now c.loop-record.record-index _ _ c.loop-record-test.false c.loop-record.invariant
