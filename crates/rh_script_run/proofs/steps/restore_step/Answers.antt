use Rattle.std.proofs.Common.{◌∙◌, sym}
use Rattle.std.proofs.lemmas.Result.{err_from_is_err_and}
use Rattle.rh_script_run.proofs.FileLemmas.{known_files, same_table}
use Rattle.rh_script_run.proofs.StepLemmas.{found_refused, restores_is}
use Rattle.rh_script_run.proofs.steps.restore_step.Goals as goal

pub returns-in_err-set-clause-made : goal.returns-in_err-set-clause-made
returns-in_err-set-clause-made g c lists files has =
    let p = err_from_is_err_and c.from_residual.result c.from_residual.ensures.1 in
    let known = known_files files (g.S.Lender.state c.args.shelf.now).files has in
    let same = same_table files (g.S.Lender.state c.args.shelf.now).files known.0 known.1 has c.args.path.now in
    rw (p.1, p.2) (found_refused _ _ _ _ same (c.in_err-set.ensures.refused known.0 known.1))

pub returns-clause-made : goal.returns-clause-made
returns-clause-made g c lists files has =
    let known = known_files files (g.S.Lender.state c.args.shelf.now).files has in
    let same = same_table files (g.S.Lender.state c.args.shelf.now).files known.0 known.1 has c.args.path.now in
    rw c.table_of-table.ensures (restores_is c.args.set.now c.in_ok-set.field-0 lists files c.args.path.now (sym same ∙ c.in_ok-set.ensures.restored known.0 known.1))
