use Rattle.std.proofs.Common.{ap, Err}
use Rattle.std.proofs.lemmas.Result.{err_from_is_err_and}
use Rattle.rh_runner.specs.declared.runner.PhaseFault.{PhaseFault}
use Rattle.rh_runner.specs.declared.runner.PhaseFault.TheVariants.{Memory}
use Rattle.rh_runner.specs.declared.fault.ListFault.TheVariants.{Keys, Phase}
use Rattle.rh_operations.proofs.Refusing.{phase_refused}
use Rattle.rh_operations.proofs.sets.look_through.Goals as goal

pub returns-in_err-list-clause-refused : goal.returns-in_err-list-clause-refused
returns-in_err-list-clause-refused g c =
    let p = err_from_is_err_and c.from_residual.result c.from_residual.ensures.1 in
    rw p.1 (Phase Memory, p.2, tt)

pub returns-in_err-take_all-clause-refused : goal.returns-in_err-take_all-clause-refused
returns-in_err-take_all-clause-refused g c =
    let p = err_from_is_err_and c.from_residual-in_err-take_all.result c.from_residual-in_err-take_all.ensures.1 in
    rw p.1 (Keys _, p.2, c.in_err-take_all.ensures.refused)

pub returns-in_err-found-clause-refused : goal.returns-in_err-found-clause-refused
returns-in_err-found-clause-refused g c =
    let p = err_from_is_err_and c.from_residual-in_err-found.result c.from_residual-in_err-found.ensures.1 in
    rw p.1 (Phase _, p.2, phase_refused _ _ _ (λ is. (c.in_err-found.ensures.starts.no_thread (ap (λ (fault : PhaseFault). Err fault) is)).1))
