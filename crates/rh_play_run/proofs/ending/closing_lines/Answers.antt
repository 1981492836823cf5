use Rattle.rh_play_run.proofs.Played.{closed, closed_finished}
use Rattle.rh_play_run.proofs.ending.closing_lines.Goals as goal

pub returns-clause-closes : goal.returns-clause-closes
returns-clause-closes c =
    closed c.args.player.now _ _ _ _ _ c.tally.ensures.counts c.tally.ensures.so_far c.all_finished.ensures c.new-text.ensures.items c.in_ok-push_tally.ensures c.in_ok-push_end.ensures

pub returns-clause-finished : goal.returns-clause-finished
returns-clause-finished c =
    closed_finished c.args.player.now _ _ _ _ _ _ c.tally.ensures.finished c.all_finished.ensures c.new-text.ensures.items c.in_ok-push_tally.ensures c.in_ok-push_end.ensures
