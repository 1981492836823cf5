use Rattle.std.proofs.lemmas.Result.{err_from_is_err_and}
use Rattle.rh_slices.proofs.Numbers.{of_each}
use Rattle.rh_slices.proofs.combining.combine_into.Goals as goal

pub returns-in_err-test_keys-clause-why : goal.returns-in_err-test_keys-clause-why
returns-in_err-test_keys-clause-why c =
    let p = err_from_is_err_and c.from_residual.result c.from_residual.ensures.1 in
    rw (p.1, p.2) (c.in_err-test_keys.ensures _ c.args.how)

pub combine-requires : goal.combine-requires
combine-requires c = of_each c.args.lists.now c.in_ok-test_keys.ensures
