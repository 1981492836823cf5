use Rattle.std.proofs.Common.{◌≡◌, ℕ, ◌+◌, ◌<◌, ap, sym, subst, arith, ⊎_elim, ◌∙◌}
use Rattle.std.proofs.lemmas.Bool.{cases_eq}
use Rattle.rh_world.specs.World.Cell.{desc}
use Rattle.rh_world.proofs.Tests.{is_desc_not, is_ref_yes}
use Rattle.rh_words.specs.declared.shape.Shape.{Shape}
use Rattle.rh_words.specs.Words.{ref_of}
use Rattle.rh_helping.specs.Held.{IsHeld}
use Rattle.rh_order.specs.Words.{HoldsCell}
use Rattle.rh_worker.specs.Worker.{IsWorker}
use Rattle.rh_turns.specs.declared.hand.Hand.{Hand}
use Rattle.rh_turns.specs.Hands.{view_of}
use Rattle.rh_turns.specs.Readable.{views_of}
use Rattle.rh_turns.proofs.HeldCells.{held_at, holds_it, holds_none, noted_old, numbered_at}
use Rattle.rh_turns.proofs.logical.word_held.Goals.{in-Some+else-eq, else-eq-via-then-eq+else-owed-cell, else-eq-via-else-eq, in_default}
use Rattle.rh_turns.proofs.logical.word_held.Goals as goal

pub returns-then-owed-cell : goal.returns-then-owed-cell
returns-then-owed-cell c =
    let hands = c.args.hands.now in
    let at = c.loop-hand.hand-index in
    let inside = c.loop-hand-test.true in
    let k = views_of hands at in
    let held = held_at hands c.requires.workers at c.hand-item.result inside c.owed_cell.result (subst (λ (h : Hand). (z : Shape) → IsWorker z h.worker → IsHeld (view_of h) c.owed_cell.result) c.hand-item.is c.owed_cell.ensures) in
    let knows = (subst (IsHeld k) c.in-Some.is held).0 in
    let same = is_ref_yes (ref_of c.in-Some.owed.piece.desc) (ref_of c.args.desc) (sym c.eq.ensures ∙ c.if-eq.true) in
    (at, inside, noted_old k c.in-Some.owed (ref_of c.args.desc) c.args.cell record { of_desc = same; at = c.if-owed-cell.true; knows = knows })

pub loop-hand-preserved : goal.loop-hand-preserved
loop-hand-preserved c v l holds =
    let hands = c.args.hands.now in
    let at = c.loop-hand.hand-index in
    let inside = c.loop-hand-test.true in
    let k = views_of hands at in
    let d = ref_of c.args.desc in
    let number = numbered_at hands c.requires.workers at c.hand-item.result inside in
    let held = held_at hands c.requires.workers at c.hand-item.result inside c.owed_cell.result (subst (λ (h : Hand). (z : Shape) → IsWorker z h.worker → IsHeld (view_of h) c.owed_cell.result) c.hand-item.is c.owed_cell.ensures) in
    ⊎_elim
    (λ (here : v ≡ at).
    let holds_here : HoldsCell k.side at d c.args.cell = subst (λ (u : ℕ). HoldsCell (views_of hands u).side u d c.args.cell) here holds in
    elim c.match-owed_cell.branch [
      | in-Some+else-eq w ↦
          let it = holds_it k at number w.in-Some.owed (subst (IsHeld k) w.in-Some.is held) d c.args.cell holds_here in
          elim w.else-eq.branch [
            | else-eq-via-then-eq+else-owed-cell w' ↦ w'.if-owed-cell.false it.at
            | else-eq-via-else-eq w' ↦ is_desc_not (desc (ref_of w.in-Some.owed.piece.desc)) d (sym w.eq.ensures ∙ w'.if-eq.false) (ap desc it.of_desc)
          ]
      | in_default w ↦ holds_none k at number (subst (IsHeld k) w.in_default.is held) d c.args.cell holds_here
    ])
    (λ (ne : v ≡ at → ⊥). c.loop-hand.invariant v (earlier v at l ne) holds) (cases_eq v at)
  where
    earlier : (v at : ℕ) → v < at + 1 → (v ≡ at → ⊥) → v < at
    earlier v at l ne = omega (arith, l, ne)
