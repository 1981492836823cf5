use Rattle.rh_draw.proofs.Showing.{all_notices, both, more_notices, nothing}
use Rattle.std.proofs.Common.{[]}
use Rattle.rh_draw.specs.Changing.{opening}
use Rattle.rh_draw.specs.Notices.{AreNotices}
use Rattle.rh_draw.proofs.history.draw_notices.Goals as goal

pub loop-record-init : goal.loop-record-init
loop-record-init c = ([], nothing _, rw c.in_ok-sight.ensures (λ more notices. notices))

pub loop-record-preserved : goal.loop-record-preserved
loop-record-preserved c =
    let view = c.args.view.now in
    let right = view.right in
    let before = c.loop-record.invariant in (
      _,
      both before.1 c.in_ok-draw_notice_of.ensures,
      more_notices view.shape view.window right (AreNotices view.shape view.window right (opening view.shape c.args.cells.now) c.args.records.now)
          c.args.records.now c.loop-record.record-index _ _ _ _ c.loop-record-test.true c.go_on.ensures before.2,
    )

pub returns : goal.returns
returns c =
    let view = c.args.view.now in
    let right = view.right in
    let before = c.loop-record.invariant in
    let notices =
    all_notices view.shape view.window right (AreNotices view.shape view.window right (opening view.shape c.args.cells.now) c.args.records.now)
    c.args.records.now c.loop-record.record-index c.loop-record.sight.words.items _ c.loop-record-test.false before.2 in
    (before.0, notices, before.1)
