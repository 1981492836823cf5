use Rattle.std.proofs.Common.{ℕ, ◌<◌, slice_index}
use Rattle.rh_tagword.specs.Word.{IsValue}
use Rattle.rh_phase_tests.proofs.keys.are_values.Given as goal

abbrev pub invariant-loop-cell : goal.invariant-loop-cell
invariant-loop-cell l = (c : ℕ) → c < l.cell → IsValue (slice_index l.cells c)
