use Rattle.std.proofs.Common.{◌≡◌, ℕ, ◌<◌, length, slice_index}
use Rattle.std.specs.Mem.Slots.{slots_items}
use Rattle.rh_tagword.specs.Word.{plain_number}
use Rattle.rh_shared.proofs.ends.close.Given as goal

abbrev pub invariant-loop-cell : goal.invariant-loop-cell
invariant-loop-cell l = record {
  sized : length l.cells ≡ length l.fn.cells;
  values : ((c : ℕ) → c < l.cell → slice_index (slots_items l.closed.words) c ≡ plain_number (slice_index l.cells c));
}
