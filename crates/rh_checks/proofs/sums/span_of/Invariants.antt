use Rattle.std.proofs.Common.{take, flat_map}
use Rattle.rh_checks.specs.Sums.{IsSpan}
use Rattle.rh_checks.proofs.sums.span_of.Given as goal

abbrev pub invariant-loop-piece : goal.invariant-loop-piece
invariant-loop-piece l = IsSpan (flat_map (λ piece. piece.items) (take l.piece-index l.pieces)) l.span
