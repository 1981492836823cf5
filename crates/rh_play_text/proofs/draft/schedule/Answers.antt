use Rattle.rh_play_text.proofs.Entering.{not_scheduled, one_more_order, stays}
use Rattle.rh_play_text.proofs.draft.schedule.Goals as goal

pub returns-in_ok-push-in-Schedule : goal.returns-in_ok-push-in-Schedule
returns-in_ok-push-in-Schedule c =
    one_more_order c.args.play c.args.line c.in-Schedule.order c.push.new.self c.requires c.in-Schedule.is c.in_ok-push-in-Schedule.ensures.items

pub returns-in_default : goal.returns-in_default
returns-in_default c = λ _. stays _ _ (not_scheduled c.args.line c.in_default.not-Schedule)
