use Rattle.std.proofs.Common.{◌≡◌, ◌≢◌, ◌<◌, ℕ, take}
use Rattle.std.specs.Prelude.{fold, slice_index}
use Rattle.rh_numbers.specs.Reading.{next}
use Rattle.rh_numbers.proofs.chunk.walk.Given as goal

abbrev pub invariant-loop-length : goal.invariant-loop-length
invariant-loop-length l = record {
  said : l.so_far ≡ fold next l.fn.so_far (take l.length l.text);
  one_line : (i : ℕ) → i < l.length → slice_index l.text i ≢ 10;
}
