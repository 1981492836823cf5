use Rattle.std.proofs.Common.{◌≡◌, ◌∙◌, ◌<◌, List, length, map, take, sym, ap, subst, arith}
use Rattle.std.proofs.lemmas.List.{take_all}
use Rattle.rh_turns.specs.declared.hand.Hand.{Hand}
use Rattle.rh_turns.specs.Game.{Game, Plays}
use Rattle.rh_ledger.specs.Tally.{tally_by}
use Rattle.rh_interleaving.specs.Made.{TallySpec, cut, total}
use Rattle.rh_interleaving.proofs.Totals.{counted_next, counts_exactly, done_is, tallies, tally_ends}
use Rattle.rh_interleaving.proofs.player.Player.tally.Goals as goal

pub loop-hand-preserved : goal.loop-hand-preserved
loop-hand-preserved c =
    let hs = c.deref-hand-items.result.now in
    let inside : c.loop-hand.hand-index < length hs = c.loop-hand-test.true in
    record {
      done = c.saturating_add-done.ensures ∙ counted_next (λ h. h.done) hs c.loop-hand.hand-index c.hand-item.result inside c.hand-item.is c.loop-hand.done c.loop-hand.invariant.done;
      changed = c.saturating_add-changed.ensures ∙ counted_next (λ h. h.changed) hs c.loop-hand.hand-index c.hand-item.result inside c.hand-item.is c.loop-hand.changed c.loop-hand.invariant.changed;
    }

pub returns-clause-counts : goal.returns-clause-counts
returns-clause-counts c =
    let g = c.args.self.now in
    let hands_are : take c.loop-hand.hand-index c.deref-hand-items.result.now ≡ g.hands =
    take_all c.loop-hand.hand-index c.deref-hand-items.result.now c.loop-hand-test.false ∙ c.deref-hand-items.ensures.value ∙ ap (λ (g : Game). g.hands) c.self.view_is in
    let kind_is = ap (λ (g : Game). g.kind) c.self.view_is in
    let plays : Plays g = subst Plays c.self.view_is c.self.invariant in
    let size = ap (λ (g : Game). length g.keys) c.self.view_is in
    let exact = counts_exactly g plays (omega (arith, size, c.self.inside.keys.ok, c.self.inside.keys.small)) in
    let done = c.loop-hand.invariant.done ∙ ap (λ (hs : List Hand). cut (total (map (λ h. h.done) hs))) hands_are ∙ ap cut (done_is g plays) ∙ exact.0 in
    let changed = c.loop-hand.invariant.changed ∙ ap (λ (hs : List Hand). cut (total (map (λ h. h.changed) hs))) hands_are ∙ exact.1 in
    c.tally_by.ensures ∙ (λ i. tally_by (kind_is i) (done i) (changed i))

pub returns-clause-so_far : goal.returns-clause-so_far
returns-clause-so_far c =
    let g = c.args.self.now in
    subst (TallySpec g) (sym (returns-clause-counts c)) (tallies g (subst Plays c.self.view_is c.self.invariant))

pub returns-clause-finished : goal.returns-clause-finished
returns-clause-finished c = λ finished. returns-clause-counts c ∙ tally_ends c.args.self.now (subst Plays c.self.view_is c.self.invariant) finished
