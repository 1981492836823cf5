use Rattle.std.proofs.Common.{◌-◌, ◌/◌}
use Rattle.rh_draw.specs.declared.limits.TheConstants.{HEAD_STEPS}
use Rattle.rh_draw.proofs.Showing.{a_picture, framed, well_formed}
use Rattle.rh_draw.proofs.drawing.draw.Goals as goal

pub returns : goal.returns
returns c =
    let laid = c.in_ok-view.ensures in
    let notices = c.in_ok-draw_lines.ensures in
    let picture =
    a_picture _ _ _ c.args.recording.now.cells.now c.args.recording.now.records.now _ _ _ _ ((c.in_ok-view.view.end - 1) / HEAD_STEPS) _ _ _ _ _ _ _ laid.shape laid.window laid.long laid.columns laid.right
    c.new-canvas.ensures c.in_ok-open.ensures notices.1 (framed c.in_ok-draw_frame.ensures c.in_ok-draw_boxes.ensures notices.2) c.in_ok-close.ensures in
    record { drawn = picture; well_formed = well_formed picture }
