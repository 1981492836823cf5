use Rattle.std.proofs.Common.{ap, inl, inr, subst, sym, take}
use Rattle.rh_worker.specs.Reading.{HasScanned, seen_at}
use Rattle.rh_worker.specs.declared.stage.KeyStage.{KeyStage}
use Rattle.rh_worker.proofs.Anew.{kept_alike, none_read}
use Rattle.rh_worker.proofs.CloseStep.{does_same, failure_stays, opens_same, still_open, success_stays, swap_fails, swap_spends, swap_succeeds, swap_withdraws}
use Rattle.rh_worker.proofs.swapping.swap.Goals as goal

pub step-requires : goal.step-requires
step-requires g c =
    let h = c.requires.worker.stays in
    record { relies = c.requires.relies; own = opens_same _ c.args.number _ _ (ap (take c.args.plan.entries) c.deref.ensures.value) h.0; stands = h.1 }

pub returns-in-On-clause-worker : goal.returns-in-On-clause-worker
returns-in-On-clause-worker g c =
    let same = ap (take c.args.plan.entries) c.deref.ensures.value in
    let leads = c.in-On.ensures.leads in
    record { key = c.requires.worker.key; room = c.requires.worker.room; stays = (opens_same _ c.args.number _ _ (sym same) leads.0, leads.1, c.requires.worker.stays.2) }

pub returns-in-Closed-Succeeded-clause-advances : goal.returns-in-Closed-Succeeded-clause-advances
returns-in-Closed-Succeeded-clause-advances g c =
    let w = c.args.worker.now in
    let h = c.requires.worker.stays in
    let same = ap (take c.args.plan.entries) c.deref.ensures.value in
    let a = c.in-Closed-Succeeded in
    inr (swap_succeeds c.args.shape.now _ _ w.side.known.view _ _ a.ensures.made w.kind w.key c.args.plan.changes _ (opens_same _ c.args.number _ _ same h.0) (does_same w.kind c.args.shape.now.bits w.key c.args.plan.changes _ _ same h.2.act) a.field-0 a.ensures.leads a.field-0-is)

pub returns-in-Closed-Withdrawn-clause-advances : goal.returns-in-Closed-Withdrawn-clause-advances
returns-in-Closed-Withdrawn-clause-advances g c =
    let w = c.args.worker.now in
    let h = c.requires.worker.stays in
    let same = ap (take c.args.plan.entries) c.deref.ensures.value in
    let a = c.in-Closed-Withdrawn in
    inr (inr (swap_withdraws c.args.shape.now _ _ w.side.known.view _ _ a.ensures.made w.kind w.key c.args.plan.changes _ (opens_same _ c.args.number _ _ same h.0) (does_same w.kind c.args.shape.now.bits w.key c.args.plan.changes _ _ same h.2.act) a.field-0 a.ensures.leads a.field-0-is))

pub returns-in-Closed-Withdrawn-clause-worker : goal.returns-in-Closed-Withdrawn-clause-worker
returns-in-Closed-Withdrawn-clause-worker g c =
    let w = c.args.worker.now in
    let h = c.requires.worker.stays in
    let same = ap (take c.args.plan.entries) c.deref.ensures.value in
    let a = c.in-Closed-Withdrawn in
    let closed = a.ensures.leads.2 in
    let full = swap_spends c.args.shape.now _ _ w.side.known.view _ _ a.ensures.made w.kind w.key c.args.plan.changes _ (opens_same _ c.args.number _ _ same h.0) (does_same w.kind c.args.shape.now.bits w.key c.args.plan.changes _ _ same h.2.act) a.field-0 a.ensures.leads a.field-0-is in
    record { key = c.requires.worker.key; room = c.requires.worker.room; stays = (record { own = closed.own; owes = closed.owes }, inl full) }

pub returns-in-Closed-Failed-clause-advances : goal.returns-in-Closed-Failed-clause-advances
returns-in-Closed-Failed-clause-advances g c =
    let w = c.args.worker.now in
    let h = c.requires.worker.stays in
    let same = ap (take c.args.plan.entries) c.deref.ensures.value in
    let a = c.in-Closed-Failed in
    inr (inr (swap_fails c.args.shape.now _ _ w.side.known.view _ _ a.ensures.made w.kind w.key c.args.plan.changes _ (opens_same _ c.args.number _ _ same h.0) (does_same w.kind c.args.shape.now.bits w.key c.args.plan.changes _ _ same h.2.act) a.field-0 a.ensures.leads _ a.field-0-is))

pub returns-in-On-clause-gives_up : goal.returns-in-On-clause-gives_up
returns-in-On-clause-gives_up g c gives =
    absurd (still_open c.args.worker.now.side.known.view _ c.args.number c.in-On.ensures.leads.0.current gives)

pub returns-in-Closed-Succeeded-clause-gives_up : goal.returns-in-Closed-Succeeded-clause-gives_up
returns-in-Closed-Succeeded-clause-gives_up g c gives =
    let w = c.args.worker.now in
    let h = c.requires.worker.stays in
    let same = ap (take c.args.plan.entries) c.deref.ensures.value in
    let a = c.in-Closed-Succeeded in
    absurd (success_stays c.args.shape.now _ _ w.side.known.view _ _ a.ensures.made w.kind w.key c.args.plan.changes _ (opens_same _ c.args.number _ _ same h.0) (does_same w.kind c.args.shape.now.bits w.key c.args.plan.changes _ _ same h.2.act) a.field-0 a.ensures.leads c.requires.relies.now.knows.sound gives a.field-0-is)

pub returns-in-Closed-Failed-clause-gives_up : goal.returns-in-Closed-Failed-clause-gives_up
returns-in-Closed-Failed-clause-gives_up g c gives =
    let w = c.args.worker.now in
    let h = c.requires.worker.stays in
    let same = ap (take c.args.plan.entries) c.deref.ensures.value in
    let a = c.in-Closed-Failed in
    absurd (failure_stays c.args.shape.now _ _ w.side.known.view _ _ a.ensures.made w.kind w.key c.args.plan.changes _ (opens_same _ c.args.number _ _ same h.0) (does_same w.kind c.args.shape.now.bits w.key c.args.plan.changes _ _ same h.2.act) a.field-0 a.ensures.leads c.requires.relies.now.knows.sound gives _ a.field-0-is)

pub returns-in-On-clause-anew : goal.returns-in-On-clause-anew
returns-in-On-clause-anew g c before h =
    let w = c.args.worker.now in
    let z = c.args.shape.now in
    none_read z before w.side.known.view c.step.new.side.known.view w.key w.buffer.seen.items 0 (kept_alike z w.side.known.view c.step.new.side.known.view c.in-On.ensures.made.reads) h

pub returns-in-Closed-Succeeded-clause-anew : goal.returns-in-Closed-Succeeded-clause-anew
returns-in-Closed-Succeeded-clause-anew g c before h =
    let w = c.args.worker.now in
    let z = c.args.shape.now in
    none_read z before w.side.known.view c.step.new.side.known.view w.key w.buffer.seen.items 0 (kept_alike z w.side.known.view c.step.new.side.known.view c.in-Closed-Succeeded.ensures.made.reads) h

pub returns-in-Closed-Withdrawn-clause-anew : goal.returns-in-Closed-Withdrawn-clause-anew
returns-in-Closed-Withdrawn-clause-anew g c before h =
    let w = c.args.worker.now in
    let z = c.args.shape.now in
    none_read z before w.side.known.view c.step.new.side.known.view w.key w.buffer.seen.items 0 (kept_alike z w.side.known.view c.step.new.side.known.view c.in-Closed-Withdrawn.ensures.made.reads) h

pub returns-in-Closed-Failed-clause-anew : goal.returns-in-Closed-Failed-clause-anew
returns-in-Closed-Failed-clause-anew g c before h =
    let w = c.args.worker.now in
    let z = c.args.shape.now in
    subst (λ (p : KeyStage). HasScanned z before c.step.new.side.known.view w.key w.buffer.seen.items (seen_at p)) (sym c.reading-worker.ensures)
    (none_read z before w.side.known.view c.step.new.side.known.view w.key w.buffer.seen.items 0 (kept_alike z w.side.known.view c.step.new.side.known.view c.in-Closed-Failed.ensures.made.reads) h)
