use Rattle.std.proofs.Common.{◌∙◌, ◌<◌, length, ap, subst, sym, arith, get_or, Some, None}
use Rattle.rh_turns.proofs.AtHands.{at_hand_is}
use Rattle.rh_turns.specs.Game.{Game}
use Rattle.rh_turns.specs.declared.hand.Hand.{Hand}
use Rattle.rh_interleaving.proofs.Answering.{beyond_all}
use Rattle.rh_interleaving.proofs.player.Player.key.Goals as goal

pub returns-then-worker-len : goal.returns-then-worker-len
returns-then-worker-len c =
    let size = ap (λ (g : Game). length g.hands) c.self.view_is in
    sym (beyond_all (λ (h : Hand). Some h.worker.key) None c.args.self.now.hands c.args.worker (omega (arith, c.if-worker-len.true, c.len.ensures, c.self.inside.hands.ok, size)))

pub returns : goal.returns
returns c =
    let inside : c.args.worker < length c.args.self.now.hands =
    subst (λ (g : Game). c.args.worker < length g.hands) c.self.view_is (omega (arith, c.if-worker-len.false, c.len.ensures, c.self.inside.hands.ok)) in
    let hand_is = c.index.ensures ∙ ap (λ (g : Game). get_or g.hands c.args.worker c.index.result.now) c.self.view_is in
    ap (λ (h : Hand). Some h.worker.key) hand_is ∙ sym (at_hand_is (λ (h : Hand). Some h.worker.key) None c.args.self.now.hands c.args.worker _ inside)
