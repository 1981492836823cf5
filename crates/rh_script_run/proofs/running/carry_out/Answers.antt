use Rattle.std.proofs.Common.{◌∙◌, ap, Err}
use Rattle.std.proofs.KnownBytes.{Appends-nil}
use Rattle.std.proofs.lemmas.Result.{err_from_is_err_and}
use Rattle.rh_script.specs.Steps.{instruction_as}
use Rattle.rh_script_run.specs.Steps.{world_of}
use Rattle.rh_script_run.proofs.StateLemmas.{refused_ends, untold_ends}
use Rattle.rh_script_run.proofs.running.carry_out.Goals as goal

pub returns-in_err-told-clause-step : goal.returns-in_err-told-clause-step
returns-in_err-told-clause-step g c named files after =
    let p = err_from_is_err_and c.from_residual.result c.from_residual.ensures.1 in
    let w = world_of c.args.workspace.now.set named files in
    refused_ends w (instruction_as c.args.step.now.command) _ _ files _ _ _ _ (p.1 ∙ ap Err p.2) c.in_err-told.ensures.no_write (Appends-nil _) (c.in_err-told.ensures.made named files after)

pub returns-in_err-tell-clause-step : goal.returns-in_err-tell-clause-step
returns-in_err-tell-clause-step g c named files after =
    let p = err_from_is_err_and c.from_residual-in_err-tell.result c.from_residual-in_err-tell.ensures.1 in
    let w = world_of c.args.workspace.now.set named files in
    let said = c.in_err-tell.ensures in
    untold_ends w (instruction_as c.args.step.now.command) _ _ files _ _ _ (p.1 ∙ ap Err p.2) _ (c.in_ok-told.ensures.made named files after) (said.0, said.1, said.2.front)

pub returns-clause-step : goal.returns-clause-step
returns-clause-step g c named files after =
    let said = c.in_ok-tell.ensures in
    record {
      account = _;
      made = c.in_ok-told.ensures.made named files after;
      told = (said.0, said.1, said.2.appended);
    }
