use Rattle.std.proofs.Common.{◌≡◌, ℕ, ◌+◌, ◌<◌, [], get_or, length, take}
use Rattle.rh_cutting.specs.Borders.{between}
use Rattle.rh_cutting.proofs.cut.cut_piece.Given as goal

abbrev pub invariant-loop-i : goal.invariant-loop-i
invariant-loop-i l = record {
  many : length l.parts + 1 ≡ length l.borders.values.items;
  each : (p : ℕ) → p < length l.parts → get_or l.parts p [] ≡ between l.borders.values.items p (p + 1) (take l.i l.keys);
}
