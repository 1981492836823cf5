use Rattle.std.proofs.Common.{◌+◌, ◌≡◌, ◌<◌, ◌∙◌, length, set, arith}
use Rattle.std.proofs.Math.ListN.{length-set}
use Rattle.std.proofs.Math.Nat.{mod-lt}
use Rattle.rh_layout.proofs.RoundLemmas.{ahead_below, steps_below}
use Rattle.rh_layout.proofs.LayoutLemmas.{at}
use Rattle.rh_probe.proofs.ProbeLemmas.{walk_goes_on}
use Rattle.rh_edit.proofs.PutLemmas.{part_none}
use Rattle.rh_edit.proofs.PushLemmas.{push_done, push_more}
use Rattle.rh_edit.proofs.insertion.push_on.Goals as goal

pub loop-step-init : goal.loop-step-init
loop-step-init c = record {
  in_table = rw c.requires.cell (ahead_below (length c.args.cells.now) c.args.first c.args.at (omega arith));
  reached = c.requires.cell;
  part = part_none (length c.args.cells.now) c.args.first c.args.at c.args.value (at c.args.cells.now);
}

pub returns-then-found-eq0 : goal.returns-then-found-eq0
returns-then-found-eq0 c =
    (c.loop-step.step, push_done (length c.args.cells.now) c.args.first c.args.at c.loop-step.step c.args.value c.loop-step.carry c.loop-step.cell c.args.cells.now c.loop-step.cells c.loop-step.auto.cells c.requires.first (omega arith) c.loop-step.invariant.part c.loop-step.invariant.reached (omega arith))

pub loop-step-preserved : goal.loop-step-preserved
loop-step-preserved c =
    let n = length c.args.cells.now in
    let kept = c.loop-step.invariant in
    let step_in : c.loop-step.step < n = omega arith in
    let same : length (set c.loop-step.cells c.loop-step.cell c.loop-step.carry) ≡ length c.loop-step.cells = length-set c.loop-step.cells c.loop-step.cell c.loop-step.carry in
    record {
      in_table = rw c.next_cell-cell.ensures (mod-lt (c.loop-step.cell + 1) (omega (arith, same)));
      reached = walk_goes_on n (length (set c.loop-step.cells c.loop-step.cell c.loop-step.carry)) c.args.first c.loop-step.step c.loop-step.cell c.next_cell-cell.result (same ∙ c.loop-step.auto.cells) c.requires.first step_in kept.reached c.next_cell-cell.ensures;
      part = push_more n c.args.first c.args.at c.loop-step.step c.args.value c.loop-step.carry c.loop-step.cell c.args.cells.now c.loop-step.cells c.loop-step.auto.cells c.requires.first step_in kept.part kept.reached (omega arith);
    }

pub unreachable-requires : goal.unreachable-requires
unreachable-requires c =
    let free = c.requires.free in
    let full = c.loop-step.invariant.part.full free.0 free.1 free.2 (omega (arith, steps_below (length c.args.cells.now) c.args.first free.0 (omega arith))) in
    omega (arith, free.3)
