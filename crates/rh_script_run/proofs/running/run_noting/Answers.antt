use Rattle.std.proofs.Common.{◌≡◌, ◌∙◌, IfSome, ap, inr, refl, length, rules, subst}
use Rattle.std.specs.FinSet.{len}
use Rattle.rh_script.specs.Names.{names_in}
use Rattle.rh_script.specs.Script.{steps_of}
use Rattle.rh_script_run.proofs.StepLemmas.{leaves_later}
use Rattle.rh_script_run.proofs.RunLemmas.{all_carried_out, all_done, comes_after, goes_on, has_list, held_where, more_lists, reached_start, step_at, stops_here}
use Rattle.rh_script_run.proofs.running.run_noting.Goals as goal

pub carry_out-told-requires-after_bounds : goal.carry_out-told-requires-after_bounds
carry_out-told-requires-after_bounds g c κs within =
    let steps = steps_of c.args.script.now in
    let i = c.loop-step.step-index in
    let here = step_at c.steps-step-items.result.now steps i _ c.steps-step-items.ensures.numbered c.loop-step-test.true c.step-item.is in
    has_list steps c.steps-step-items.ensures.in_order i _ here (length c.loop-step.workspace.lists.items) c.loop-step.invariant.many

pub loop-step-init : goal.loop-step-init
unfolding names_in
loop-step-init g c = record {
  still_unknown = λ unknown. unknown;
  fine = refl;
  read = refl;
  started = refl;
  written = refl;
  many = ap length c.new-lists.ensures.items;
  reached = λ files known. reached_start files _ c.in-Ok.set c.new-lists.result.items known c.in-Ok.ensures.keys c.in-Ok.ensures.bits c.new-lists.ensures.items;
}

pub returns-in-Err-clause-meant : goal.returns-in-Err-clause-meant
returns-in-Err-clause-meant g c files known =
    let steps = steps_of c.args.script.now in
    let i = c.loop-step.step-index in
    let here = step_at c.steps-step-items.result.now steps i _ c.steps-step-items.ensures.numbered c.loop-step-test.true c.step-item.is in
    let so_far = c.loop-step.invariant.reached files known in
    let ends = c.in-Err.ensures.step so_far.done.named so_far.done.made (comes_after files steps i _ _ _ here so_far c.steps-step-items.ensures.in_order) in
    inr (stops_here files steps i _ _ _ here so_far _ _ c.loop-step.invariant.fine c.loop-step.invariant.read c.loop-step.invariant.started ends)

pub loop-step-preserved : goal.loop-step-preserved
loop-step-preserved g c =
    let steps = steps_of c.args.script.now in
    let i = c.loop-step.step-index in
    record {
      still_unknown = λ unknown. c.in_default-told.ensures.leaves.shelf.still_unknown (c.loop-step.invariant.still_unknown unknown);
      fine = c.in_default-told.ensures.leaves.shelf.fine ∙ c.loop-step.invariant.fine;
      read = c.in_default-told.ensures.leaves.shelf.none_read ∙ c.loop-step.invariant.read;
      started = c.in_default-told.ensures.leaves.runner.fine ∙ c.loop-step.invariant.started;
      written = c.in_default-told.ensures.leaves.writer.fine ∙ c.loop-step.invariant.written;
      many =
          let here = step_at c.steps-step-items.result.now steps i _ c.steps-step-items.ensures.numbered c.loop-step-test.true c.step-item.is in
          more_lists steps i here.numbered _ _ _ here.more here.said c.loop-step.invariant.many c.in_default-told.ensures.grow.more;
      reached = λ files known.
          let here = step_at c.steps-step-items.result.now steps i _ c.steps-step-items.ensures.numbered c.loop-step-test.true c.step-item.is in
          let so_far = c.loop-step.invariant.reached files known in
          let did = c.in_default-told.ensures.step so_far.done.named so_far.done.made (comes_after files steps i _ _ _ here so_far c.steps-step-items.ensures.in_order) in
          goes_on files steps i _ _ _ here so_far _ did c.in_default-told.ensures.grow.paths;
    }

pub returns-clause-meant : goal.returns-clause-meant
returns-clause-meant g c files known =
    let so_far = c.loop-step.invariant in
    let carried = all_carried_out files c.steps-step-items.result.now (steps_of c.args.script.now) c.loop-step.step-index _ _ c.steps-step-items.ensures.numbered c.loop-step-test.false (so_far.reached files known) in
    all_done files (steps_of c.args.script.now) _ _ _ _ _ _ carried c.len.ensures c.len-2.ensures c.bits.ensures.bits so_far.fine so_far.read so_far.started

pub returns-in-Err-clause-leaves : goal.returns-in-Err-clause-leaves
returns-in-Err-clause-leaves g c =
    let so_far = c.loop-step.invariant in
    let leaves = c.in-Err.ensures.leaves in
    record {
      outside = record {
        shelf = leaves_later (g.S.Lender.state c.args.shelf.now) (g.S.Lender.state c.loop-step.shelf) _ c.in-Err.cause so_far.still_unknown so_far.fine so_far.read leaves.shelf;
        runner = record { fine = tt; thread = search rules; others = search rules };
      };
      writer = record { fine = tt; write = search rules };
    }

pub returns-in-Err-clause-wanted : goal.returns-in-Err-clause-wanted
returns-in-Err-clause-wanted g c files known other =
    let steps = steps_of c.args.script.now in
    let i = c.loop-step.step-index in
    let here = step_at c.steps-step-items.result.now steps i _ c.steps-step-items.ensures.numbered c.loop-step-test.true c.step-item.is in
    let so_far = c.loop-step.invariant.reached files known in
    held_where files steps i _ _ _ here so_far c.wanted_by.result (subst (λ now. IfSome c.wanted_by.result (λ wanted. wanted.held ≡ len now.keys)) (c.in-Err.ensures.unchanged other) c.wanted_by.ensures)
