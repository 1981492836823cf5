use Rattle.std.proofs.Common.{◌≡◌, ◌≤◌, ◌*◌, ◌^◌, length, take, flat_map}
use Rattle.rh_checks.proofs.sums.count_of.Given as goal

abbrev pub invariant-loop-piece : goal.invariant-loop-piece
invariant-loop-piece l = record {
  count : l.count ≡ length (flat_map (λ piece. piece.items) (take l.piece-index l.pieces));
  few : l.count ≤ l.piece-index * 2 ^ 64;
}
