use Rattle.std.proofs.Common.{◌≡◌, ℕ, ◌<◌, length, slice_index}
use Rattle.rh_cutting.specs.Borders.{NameParts, StandsIn}
use Rattle.rh_cutting.proofs.cut.numbers_by_search.Given as goal

abbrev pub invariant-loop-key : goal.invariant-loop-key
invariant-loop-key l = record {
  many : length l.numbers.items ≡ l.key-index;
  inside : NameParts l.values l.numbers.items;
  each : (i : ℕ) → i < l.key-index → StandsIn l.values (slice_index l.numbers.items i) (slice_index l.keys i);
}
