use Rattle.std.proofs.Common.{◌<◌, length, refl, arith}
use Rattle.std.proofs.lemmas.Bool.Decides.{nat_tests}
use Rattle.rh_kcas.proofs.Fitting.{are_entries}
use Rattle.rh_kcas.proofs.entries.are_entries.Goals as goal

pub returns : goal.returns
returns c = (
  λ _. let some : 0 < length c.args.entries.now = grind (arith, nat_tests) in
      are_entries c.args.shape.now c.args.entries.now some (λ e l. c.loop-entry.invariant e (omega (arith, l))),
  λ _. refl,
)
