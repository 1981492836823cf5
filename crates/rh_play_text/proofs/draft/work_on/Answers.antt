use Rattle.rh_play_text.proofs.Entering.{first_order, not_worked, one_more_piece, stays}
use Rattle.std.proofs.Common.{◌∙◌, ap, ◌++◌, ◌∷◌, []}
use Rattle.rh_play_text.proofs.draft.work_on.Goals as goal

pub returns-in_ok-push-in-Work : goal.returns-in_ok-push-in-Work
returns-in_ok-push-in-Work c =
    one_more_piece c.args.table c.args.line c.in-Work.keys c.args.pieces.items c.push.new.self.items c.requires c.in-Work.is c.in_ok-push-in-Work.ensures.items

pub returns-in_ok-push-in-Schedule : goal.returns-in_ok-push-in-Schedule
returns-in_ok-push-in-Schedule c =
    first_order c.args.table c.args.line c.in-Schedule.order c.args.pieces c.push-in-Schedule.new.self c.with_work.result c.requires c.in-Schedule.is (c.in_ok-push-in-Schedule.ensures.items ∙ ap (λ before. before ++ c.in-Schedule.order ∷ []) c.new-schedule.ensures.items) c.with_work.ensures

pub returns-in_default : goal.returns-in_default
returns-in_default c = λ _. stays _ _ (not_worked c.args.line c.in_default.not-Work c.in_default.not-Schedule)
