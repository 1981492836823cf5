use Rattle.std.proofs.Common.{◌<◌, ◌∙◌, ap, rules, subst, ℕ}
use Rattle.rh_play_run.specs.declared.limits.TheConstants.{MAX_TOLD}
use Rattle.rh_play_run.specs.Pieces.{steps_after}
use Rattle.rh_play_run.specs.Schedule.{CarriesOutAll}
use Rattle.rh_play_run.proofs.drawing.record.Goals as goal

pub returns-clause-recorded : goal.returns-clause-recorded
returns-clause-recorded c within =
    let told = c.in_ok-follow.ensures in
    let follows = subst (λ orders. CarriesOutAll orders c.in_ok-player.player c.in_ok-follow.ensures.0 c.follow.new.player) c.deref.ensures.value c.in_ok-follow.ensures.1 in
    record {
      run = record { first = c.in_ok-player.player; last = c.follow.new.player; begins = c.in_ok-player.ensures.begins; pieces = c.in_ok-follow.ensures.0; follows = follows };
      shape_is = c.shape-shape.ensures;
      long = search rules;
      cells_are = search rules;
      records_are = search rules;
    }

pub returns-clause-long : goal.returns-clause-long
returns-clause-long c many =
    let told = c.in_ok-follow.ensures in
    let follows = subst (λ orders. CarriesOutAll orders c.in_ok-player.player c.in_ok-follow.ensures.0 c.follow.new.player) c.deref.ensures.value c.in_ok-follow.ensures.1 in
    record { run = record { first = c.in_ok-player.player; last = c.follow.new.player; begins = c.in_ok-player.ensures.begins; pieces = c.in_ok-follow.ensures.0; follows = follows }; long = subst (λ (n : ℕ). MAX_TOLD < n) (told.2.steps ∙ ap (λ (n : ℕ). steps_after n told.0) c.new-log.ensures.steps) many }
