use Rattle.std.proofs.Common.{rules, Bool, subst, sym, ◌∙◌}
use Rattle.rh_words.specs.Steps.{Allowed, Step}
use Rattle.rh_helping.specs.Machine.{left_on, settling_of}
use Rattle.rh_helping.specs.Settling.{GoesOn, LeadsOn}
use Rattle.rh_helping.proofs.Requesting.{made_settled, may_ask_mark}
use Rattle.rh_shared.specs.Seats.{view_of}
use Rattle.rh_rdcss.specs.Settling.RunsSettling.{goes, left, settled}
use Rattle.rh_rdcss.proofs.MarksMet.{is_read, learned_as}
use Rattle.rh_rdcss.proofs.settling.settle_met.Goals as goal

pub make-found-requires-clause-allowed : goal.make-found-requires-clause-allowed
make-found-requires-clause-allowed c =
    let i = c.loop-settling.invariant in
    subst (λ (s : Step). Allowed c.args.table.now.shape (view_of c.loop-settling.seat) s) (sym c.request-request.ensures) (may_ask_mark _ _ i.knows (settling_of c.loop-settling.settling) i.settling)

pub after-requires : goal.after-requires
after-requires c =
    let l = c.make-found.ensures.learned in
    record { follows = (c.args.table.now.shape, (_, (_, made_settled c.args.table.now.shape _ _ (settling_of c.loop-settling.settling) _ _ c.loop-settling.invariant.settling c.request-request.ensures l.finds l.view_is))) }

pub returns-in-Settle-clause-settles : goal.returns-in-Settle-clause-settles
returns-in-Settle-clause-settles c =
    c.loop-settling.invariant.runs _ _ (settled (sym c.in-Settle.ensures) (learned_as _ _ _ _ _ _ c.request-request.ensures c.make-found.ensures.learned))

pub returns-then-not-after-clause-settles : goal.returns-then-not-after-clause-settles
returns-then-not-after-clause-settles c =
    let on = subst (λ (b : Bool). GoesOn (settling_of c.loop-settling.settling) c.make-found.result (left_on b c.after.new.self)) c.if-not-after.true c.after.ensures.goes in
    let read = is_read (settling_of c.loop-settling.settling) (λ e. c.in_default.not-Settle (c.kind.ensures ∙ e)) in
    c.loop-settling.invariant.runs _ _ (left c.make-found.result read (learned_as _ _ _ _ _ _ c.request-request.ensures c.make-found.ensures.learned) on)

pub loop-settling-preserved : goal.loop-settling-preserved
loop-settling-preserved c =
    let i = c.loop-settling.invariant in
    let l = c.make-found.ensures.learned in
    let on = subst (λ (b : Bool). GoesOn (settling_of c.loop-settling.settling) c.make-found.result (left_on b c.after.new.self)) c.if-not-after.false c.after.ensures.goes in
    let leads = c.after.ensures.leads c.args.table.now.shape _ _ (made_settled c.args.table.now.shape _ _ (settling_of c.loop-settling.settling) _ _ i.settling c.request-request.ensures l.finds l.view_is) in record {
      here = search rules;
      same = search rules;
      knows = l.knows;
      settling = subst (λ (b : Bool). LeadsOn (view_of c.loop-settling.seat) (view_of c.make-found.new.seat) (settling_of c.loop-settling.settling) (left_on b c.after.new.self)) c.if-not-after.false leads;
      runs = λ r next run. i.runs r next (goes c.make-found.result (learned_as _ _ _ _ _ _ c.request-request.ensures l) on run);
    }
