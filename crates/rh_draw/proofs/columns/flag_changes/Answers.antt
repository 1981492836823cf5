use Rattle.rh_draw.proofs.Flagging.{all_flagged, by_round, by_step, none_flagged, turned}
use Rattle.rh_draw.proofs.columns.flag_changes.Goals.{in-Step+in_ok-flag_step, in_default}
use Rattle.rh_draw.proofs.columns.flag_changes.Goals as goal

pub loop-record-init : goal.loop-record-init
loop-record-init c = none_flagged _ _ _ _ _ _ c.requires

pub loop-record-preserved : goal.loop-record-preserved
loop-record-preserved c =
    elim c.match-record.branch [
      | in-Step+in_ok-flag_step w ↦
          rw (w.words-is, w.flags-is)
          (by_step _ _ _ c.args.records.now _ _ _ _ _ _ _ c.loop-record.auto.flags w.follow_words.ensures.leaves w.follow_words.ensures.alone
          w.in_ok-flag_step.ensures
          (turned _ _ _ _ _ c.loop-record.words c.loop-record.flags c.loop-record.record-index _ _ c.loop-record-test.true w.in-Step.is c.loop-record.invariant))
      | in_default w ↦
          rw (w.words-is, w.flags-is)
          (by_round _ _ _ c.args.records.now _ _ _ _ _
          (turned _ _ _ _ _ c.loop-record.words c.loop-record.flags c.loop-record.record-index _ _ c.loop-record-test.true w.in_default.is c.loop-record.invariant))
    ]

pub returns : goal.returns
returns c = all_flagged _ _ _ _ _ c.loop-record.words c.loop-record.flags c.loop-record.record-index c.loop-record-test.false c.loop-record.invariant
