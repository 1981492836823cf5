use Rattle.std.proofs.Common.{◌≡◌, ◌∙◌, ◌<◌, List, length, sym, ap, subst, arith, true≢false, refl}
use Rattle.std.specs.Prelude.{All}
use Rattle.std.proofs.lemmas.List.{take_all}
use Rattle.rh_turns.specs.declared.hand.Hand.{Hand}
use Rattle.rh_turns.specs.Game.{Game}
use Rattle.rh_interleaving.specs.Turned.{IsStopped}
use Rattle.rh_interleaving.proofs.Stops.{all_more}
use Rattle.rh_interleaving.proofs.player.Player.all_stopped.Goals as goal

pub returns-then-not-is_stopped : goal.returns-then-not-is_stopped
returns-then-not-is_stopped c =
    let items : c.deref-hand-items.result.now ≡ c.args.self.now.hands = c.deref-hand-items.ensures.value ∙ ap (λ (g : Game). g.hands) c.self.view_is in
    let inside : c.loop-hand.hand-index < length c.deref-hand-items.result.now = omega (arith, c.loop-hand-test.true) in (
      λ bad. absurd (true≢false (sym bad)),
      λ all. sym c.if-not-is_stopped.true ∙ c.is_stopped.ensures.1 (subst IsStopped (sym c.hand-item.is) (subst (λ (hs : List Hand). All IsStopped hs) (sym items) all c.loop-hand.hand-index c.hand-item.result inside)),
    )

pub loop-hand-preserved : goal.loop-hand-preserved
loop-hand-preserved c =
    let inside : c.loop-hand.hand-index < length c.deref-hand-items.result.now = omega (arith, c.loop-hand-test.true) in
    all_more IsStopped c.deref-hand-items.result.now c.loop-hand.hand-index c.hand-item.result c.hand-item.result inside c.hand-item.is c.loop-hand.invariant (c.is_stopped.ensures.0 c.if-not-is_stopped.false)

pub returns : goal.returns
returns c =
    let items : c.deref-hand-items.result.now ≡ c.args.self.now.hands = c.deref-hand-items.ensures.value ∙ ap (λ (g : Game). g.hands) c.self.view_is in (
      λ t. subst (λ (hs : List Hand). All IsStopped hs) (take_all c.loop-hand.hand-index c.deref-hand-items.result.now (omega (arith, c.loop-hand-test.false)) ∙ items) c.loop-hand.invariant,
      λ all. refl,
    )
