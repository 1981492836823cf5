use Rattle.std.proofs.Common.{◌≡◌, true}
use Rattle.rh_play_run.proofs.resting.stand.Goals as goal

pub returns-then-all_finished : goal.returns-then-all_finished
returns-then-all_finished c = c.all_finished.ensures.0 c.if-all_finished.true

pub returns-then-all_stopped : goal.returns-then-all_stopped
returns-then-all_stopped c = (
  c.all_stopped.ensures.0 c.if-all_stopped.true,
  λ all. let so : c.all_finished.result ≡ true = c.all_finished.ensures.1 all in absurd cc,
)

pub returns-else-all_stopped : goal.returns-else-all_stopped
returns-else-all_stopped c =
    λ all. let so : c.all_stopped.result ≡ true = c.all_stopped.ensures.1 all in absurd cc
