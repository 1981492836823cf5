use Rattle.std.proofs.Common.{◌≡◌, ◌∙◌, ℕ, List, length, sym, ap, subst, arith}
use Rattle.std.proofs.lemmas.List.{length-set}
use Rattle.rh_layout.specs.Layout.{Layout, keys_of}
use Rattle.rh_ledger.specs.Phase.{set_after}
use Rattle.rh_words.specs.Parts.{cell_count}
use Rattle.rh_order.proofs.Standing.{one_now}
use Rattle.rh_turns.specs.Game.{Game, Plays, keep}
use Rattle.rh_turns.specs.declared.hand.Hand.{Hand}
use Rattle.rh_turns.specs.Readable.{AreWorkers, IsReadable, IsValueOf, views_of}
use Rattle.rh_turns.proofs.Ended.{plays_ends}
use Rattle.rh_turns.proofs.Playing.{plays_readable, plays_workers}
use Rattle.rh_interleaving.proofs.Showing.{all_now, so_far, values_more}
use Rattle.rh_interleaving.proofs.player.Player.logical.Goals as goal

pub logical_value-requires-clause-workers : goal.logical_value-requires-clause-workers
logical_value-requires-clause-workers c = subst AreWorkers (sym c.deref-in-loop-cell.ensures.value) (plays_workers _ c.self.invariant)

pub logical_value-requires-clause-readable : goal.logical_value-requires-clause-readable
logical_value-requires-clause-readable c =
    let size : length c.args.cells.now ≡ cell_count c.self.inside.shape = c.requires ∙ ap (λ (g : Game). cell_count g.shape) (sym c.self.view_is) in
    let at = c.loop-cell.cell in
    subst (λ (hands : List Hand). IsReadable c.self.inside.shape c.deref.result.now (views_of hands) at) (sym c.deref-in-loop-cell.ensures.value)
    (subst (λ (words : List ℕ). IsReadable c.self.inside.shape words (views_of c.self.inside.hands.items) at) (sym c.deref.ensures.value)
    (plays_readable _ c.self.invariant at (omega (arith, size, c.loop-cell-test.true))))

pub loop-cell-preserved : goal.loop-cell-preserved
loop-cell-preserved c =
    let at = c.loop-cell.cell in
    let value = c.logical_value.result in
    let g = c.args.self.now in
    let inside = subst (λ (hands : List Hand). IsValueOf c.self.inside.shape c.self.inside.table.words.items (views_of hands) at value) c.deref-in-loop-cell.ensures.value
    (subst (λ (words : List ℕ). IsValueOf c.self.inside.shape words (views_of c.deref-in-loop-cell.result.now) at value) c.deref.ensures.value c.logical_value.ensures) in
    record {
      size = length-set c.loop-cell.cells at value ∙ c.loop-cell.invariant.size;
      done = values_more (IsValueOf g.shape g.words (views_of g.hands)) c.loop-cell.cells at value (omega (arith, c.loop-cell-test.true, c.loop-cell.invariant.size)) c.loop-cell.invariant.done
          (subst (λ (g : Game). IsValueOf g.shape g.words (views_of g.hands) at value) c.self.view_is inside);
    }

pub returns-clause-so_far : goal.returns-clause-so_far
returns-clause-so_far c =
    let g = c.args.self.now in
    let plays : Plays g = subst Plays c.self.view_is c.self.invariant in (
      all_now g plays c.loop-cell.cells (c.loop-cell.invariant.size ∙ c.requires) (λ n inside. c.loop-cell.invariant.done n (omega (arith, inside, c.loop-cell-test.false, c.requires))),
      so_far g plays,
    )

pub returns-clause-finished : goal.returns-clause-finished
returns-clause-finished c finished =
    let g = c.args.self.now in
    let plays : Plays g = subst Plays c.self.view_is c.self.invariant in
    let ends = plays_ends g plays finished in
    let now = all_now g plays c.loop-cell.cells (c.loop-cell.invariant.size ∙ c.requires) (λ n inside. c.loop-cell.invariant.done n (omega (arith, inside, c.loop-cell-test.false, c.requires))) in
    subst (λ (cells : List ℕ). Layout cells g.shape.bits (set_after g.kind (keys_of g.opening) g.keys)) (sym (one_now g.shape g.words (keep g) _ _ now ends.now)) ends.layout
