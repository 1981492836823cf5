use Rattle.std.proofs.lemmas.List.{get_or_default}
use Rattle.std.proofs.Common.{refl}
use Rattle.rh_interleaving.proofs.Setting.{next_hands}
use Rattle.rh_interleaving.proofs.set_up.new_hands.Goals as goal

pub loop-number-preserved : goal.loop-number-preserved
loop-number-preserved c =
    let n = c.loop-number.number in
    let shares = c.args.shares.now in
    let next = next_hands c.args.kind c.args.shape.now c.args.words.now shares c.loop-number.hands.items n _ c.loop-number-test.true c.loop-number.invariant.shares
    (get_or_default shares n _ _ c.loop-number-test.true) c.loop-number.invariant.new
    (record { worker = c.in_ok-worker.ensures.worker; kind_is = c.in_ok-worker.ensures.kind; idle = c.in_ok-worker.ensures.idle; view = c.in_ok-worker.ensures.view; done = refl; changed = refl })
    c.push.new.self.items c.in_ok-push.ensures.items in
    record { shares = next.0; new = next.1 }
