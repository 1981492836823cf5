use Rattle.std.proofs.Common.{◌≡◌, ◌⊎◌}
use Rattle.rh_cli.specs.declared.status.Status.TheVariants.{Done, Refused}
use Rattle.rhpack.proofs.check.check_all.Given as goal

abbrev pub invariant-loop-path : goal.invariant-loop-path
invariant-loop-path g l = (l.status ≡ Done) ⊎ (l.status ≡ Refused)
