use Rattle.std.proofs.Common.{List, [], drop}
use Rattle.rh_draw.specs.Reading.{ShowsTags}
use Rattle.rh_draw.proofs.Showing.{Goes}
use Rattle.rh_draw.specs.Changing.{opening}
use Rattle.rh_draw.specs.Notices.{AreNotices}
use Rattle.rh_svg.specs.declared.tags.Tag.{Tag}
use Rattle.rh_draw.proofs.history.draw_notices.Given as goal

abbrev pub invariant-loop-record : goal.invariant-loop-record
invariant-loop-record l =
    let right = l.view.right in
    (done : List Tag) × ShowsTags l.fn.canvas.out.items l.canvas.out.items [] done []
    × Goes l.view.shape l.view.window right (AreNotices l.view.shape l.view.window right (opening l.view.shape l.cells) l.records)
    l.sight.words.items (drop l.record-index l.records) done
