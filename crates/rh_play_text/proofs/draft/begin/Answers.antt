use Rattle.rh_play_text.proofs.Entering.{first_piece, not_begun, shared_work, stays}
use Rattle.std.proofs.Common.{◌∙◌, ap, ◌++◌, ◌∷◌, []}
use Rattle.rh_play_text.proofs.draft.begin.Goals as goal

pub returns-in_ok-push-in-Work : goal.returns-in_ok-push-in-Work
returns-in_ok-push-in-Work c =
    first_piece c.args.table c.args.line c.in-Work.keys c.push.new.self.items c.requires c.in-Work.is (c.in_ok-push-in-Work.ensures.items ∙ ap (λ before. before ++ c.in-Work.keys ∷ []) c.new-pieces.ensures.items)

pub returns-in-Share : goal.returns-in-Share
returns-in-Share c =
    shared_work c.args.table c.args.line c.in-Share.workers c.in-Share.keys c.new.result c.with_work.result c.requires c.in-Share.is c.new.ensures.items c.with_work.ensures

pub returns-in_default : goal.returns-in_default
returns-in_default c = λ _. stays _ _ (not_begun c.args.line c.in_default.not-Work c.in_default.not-Share)
