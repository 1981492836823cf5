use Rattle.std.proofs.Common.{ap, take, ◌∙◌}
use Rattle.rh_words.specs.View.{View}
use Rattle.rh_rule.proofs.SeatsKept.{noted_worker}
use Rattle.rh_worker.proofs.OpenStep.{may_open, opened_stays}
use Rattle.rh_worker.proofs.swapping.open.Goals as goal

pub step-requires-clause-may : goal.step-requires-clause-may
step-requires-clause-may g c =
    let w = c.args.worker.now in
    may_open c.args.shape.now w.side.known.view w.kind w.key w.buffer c.args.plan c.requires.worker.stays.0 _ (ap (take c.args.plan.entries) c.deref.ensures.value)

pub returns-in-None-clause-worker : goal.returns-in-None-clause-worker
returns-in-None-clause-worker g c =
    let w = c.args.worker.now in
    let z = c.args.shape.now in
    let made = c.in-None.ensures.made in
    let by = ap (λ (n : View). n.worker) made.view_is ∙ noted_worker z w.side.known.view made.step made.word ∙ w.side.same_worker in
    record {
      key = c.requires.worker.key;
      room = c.requires.worker.room;
      stays = opened_stays z w.side.known.view w.kind w.key w.buffer c.args.plan c.requires.worker.stays.0 _ (ap (take c.args.plan.entries) c.deref.ensures.value) _ _ _ by w.side.same_number c.in-None.ensures.leads _ c.go_about.ensures;
    }
