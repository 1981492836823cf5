use Rattle.std.proofs.Common.{◌+◌, length, arith}
use Rattle.std.proofs.Math.Nat.{mod-lt}
use Rattle.std.proofs.Math.ListN.{length-set, get_or}
use Rattle.rh_layout.specs.Order.{home_in}
use Rattle.rh_layout.proofs.RoundLemmas.{ahead_below, steps_below}
use Rattle.rh_layout.proofs.LayoutLemmas.{at}
use Rattle.rh_probe.specs.Segment.{IsAway}
use Rattle.rh_probe.proofs.ProbeLemmas.{walk_goes_on}
use Rattle.rh_edit.proofs.PullLemmas.{pull_none, pull_stops, pull_goes_on}
use Rattle.rh_edit.proofs.removal.pull_back.Goals as goal

pub loop-step-init : goal.loop-step-init
loop-step-init c = record {
  in_table = rw c.requires.cell (ahead_below (length c.args.cells.now) c.args.first c.args.at (omega arith));
  reached = c.requires.cell;
  part = pull_none (length c.args.cells.now) (home_in c.args.bits) c.args.first c.args.at (at c.args.cells.now);
}

pub returns-then-not-is_movable : goal.returns-then-not-is_movable
returns-then-not-is_movable c =
    let kept = c.loop-step.invariant in
    let reached = walk_goes_on (length c.args.cells.now) (length c.loop-step.cells) c.args.first c.loop-step.step c.loop-step.cell c.next_cell-next.result c.loop-step.auto.cells c.requires.first (omega arith) kept.reached c.next_cell-next.ensures in
    let stays : IsAway c.args.bits c.next_cell-next.result (get_or c.loop-step.cells c.next_cell-next.result 0) → ⊥ = λ away. let moves = c.is_movable.ensures.1 away in (cc) in
    (c.loop-step.step + 1, pull_stops c.args.bits (length c.args.cells.now) c.args.first c.args.at c.loop-step.step c.loop-step.cell c.next_cell-next.result c.args.cells.now c.loop-step.cells c.loop-step.auto.cells c.requires.first (omega arith) kept.part kept.reached reached stays)

pub loop-step-preserved : goal.loop-step-preserved
loop-step-preserved c =
    let kept = c.loop-step.invariant in
    let reached = walk_goes_on (length c.args.cells.now) (length c.loop-step.cells) c.args.first c.loop-step.step c.loop-step.cell c.next_cell-next.result c.loop-step.auto.cells c.requires.first (omega arith) kept.reached c.next_cell-next.ensures in
    record {
      in_table = omega (arith, c.next_cell-next.ensures, mod-lt (c.loop-step.cell + 1) {m = length c.loop-step.cells} (omega arith), length-set c.loop-step.cells c.loop-step.cell (get_or c.loop-step.cells c.next_cell-next.result 0));
      reached = reached;
      part = pull_goes_on c.args.bits (length c.args.cells.now) c.args.first c.args.at c.loop-step.step c.loop-step.cell c.next_cell-next.result c.args.cells.now c.loop-step.cells c.loop-step.auto.cells c.requires.first (omega arith) kept.part kept.reached reached (c.is_movable.ensures.0 c.if-not-is_movable.false);
    }

pub unreachable-requires : goal.unreachable-requires
unreachable-requires c =
    let free = c.requires.free in
    let full = c.loop-step.invariant.part.full free.0 free.1 (omega (arith, free.2)) (omega (arith, steps_below (length c.args.cells.now) c.args.first free.0 (omega arith))) in
    omega (arith, free.3)
