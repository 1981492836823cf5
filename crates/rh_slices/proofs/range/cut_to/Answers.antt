use Rattle.std.proofs.Common.{◌∙◌, ◌≤◌, arith, length, sym}
use Rattle.rh_layout.specs.Range.{stands, within}
use Rattle.rh_slices.proofs.Ranges.{has_room, not_put, put}
use Rattle.rh_slices.proofs.range.cut_to.Goals as goal
use Rattle.rh_slices.proofs.range.cut_to.Goals.{then-is_within, else-is_within}

pub bounds-into-at : goal.bounds-into-at
bounds-into-at c =
    let room : length (within c.args.from c.args.to c.args.numbers.now) ≤ length c.loop-number.into = omega (arith, c.loop-number.invariant.long, c.count_within-count.ensures, c.if-into-count.false) in
    has_room (stands c.args.from c.args.to) c.args.numbers.now c.loop-number.number-index c.loop-number-test.true _ _ _ c.loop-number.invariant (sym c.is_within.ensures ∙ c.if-is_within.true) room

pub loop-number-preserved : goal.loop-number-preserved
loop-number-preserved c =
    let passes = stands c.args.from c.args.to in
    let i = c.loop-number.number-index in
    let so_far = c.loop-number.invariant in
    let room : length (within c.args.from c.args.to c.args.numbers.now) ≤ length c.loop-number.into = omega (arith, so_far.long, c.count_within-count.ensures, c.if-into-count.false) in
    elim c.if-is_within.branch [
      | then-is_within w ↦
          let does = sym c.is_within.ensures ∙ w.if-is_within.true in
          rw (w.into-is, w.at-is) (put passes c.args.numbers.now i c.loop-number-test.true _ _ _ so_far does (has_room passes c.args.numbers.now i c.loop-number-test.true _ _ _ so_far does room))
      | else-is_within w ↦ rw (w.into-is, w.at-is) (not_put passes c.args.numbers.now i c.loop-number-test.true _ _ _ so_far (sym c.is_within.ensures ∙ w.if-is_within.false))
    ]
