use Rattle.std.proofs.Common.{List, [], ◌++◌, sym, ap, ◌∙◌, subst, append-nil, append_assoc}
use Rattle.rh_words.specs.declared.shape.Shape.{Shape}
use Rattle.rh_words.specs.Parts.{cell_count}
use Rattle.rh_play_run.specs.Pieces.{LogEntry}
use Rattle.rh_play_run.specs.Schedule.{CarriesOutAll}
use Rattle.rh_play_run.proofs.Following.{all_followed, nothing_told, orders_from, then_tells}
use Rattle.rh_play_run.proofs.Keeping.{order_keeps}
use Rattle.rh_play_run.proofs.schedule.follow.Goals as goal

pub loop-order-init : goal.loop-order-init
loop-order-init c = record { size = c.requires; done = []; tells = nothing_told _; follows = λ others next rest. rest }

pub loop-order-preserved : goal.loop-order-preserved
loop-order-preserved c =
    let before = c.loop-order.invariant in
    let step = c.in_ok-carry_out.ensures in
    let kept = order_keeps _ _ _ _ step.1 in
    record {
      size = (kept.workers ∙ before.size.0, ap (λ (z : Shape). cell_count z) kept.shape ∙ before.size.1, before.size.2);
      done = before.done ++ step.0;
      tells = then_tells _ _ _ before.done step.0 before.tells step.2;
      follows = λ others next rest.
          subst (λ (pieces : List LogEntry). CarriesOutAll c.args.orders.now c.args.player.now pieces next) (sym (append_assoc before.done step.0 others))
          (before.follows (step.0 ++ others) next (orders_from _ _ _ _ _ _ _ _ c.loop-order-test.true step.1 rest));
    }

pub returns : goal.returns
returns c =
    let followed = c.loop-order.invariant in
    let done = followed.follows [] c.loop-order.player (all_followed _ _ _ c.loop-order-test.false) in
    (followed.done, subst (λ (pieces : List LogEntry). CarriesOutAll c.args.orders.now c.args.player.now pieces c.loop-order.player) (append-nil followed.done) done, followed.tells)
