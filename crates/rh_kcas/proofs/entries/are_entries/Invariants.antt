use Rattle.std.proofs.Common.{ℕ, ◌<◌}
use Rattle.rh_kcas.specs.Fits.{Fits}
use Rattle.rh_kcas.proofs.entries.are_entries.Given as goal

abbrev pub invariant-loop-entry : goal.invariant-loop-entry
invariant-loop-entry l = (e : ℕ) → e < l.entry → Fits l.shape l.entries e
