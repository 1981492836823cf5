use Rattle.std.proofs.Common.{◌≡◌, ◌++◌}
use Rattle.rh_play_run.specs.Schedule.{words_shown}
use Rattle.rh_play_run.proofs.orders.show.Given as goal

abbrev pub invariant-loop-cell : goal.invariant-loop-cell
invariant-loop-cell l = l.out.items ≡ l.fn.out.items ++ words_shown l.player.words l.cell
