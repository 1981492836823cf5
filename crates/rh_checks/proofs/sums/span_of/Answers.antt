use Rattle.std.proofs.Common.{◌≡◌, ◌++◌, Some, length, take, flat_map, refl, subst, rules}
use Rattle.std.specs.Prelude.{slice_get}
use Rattle.std.proofs.lemmas.Option.{slice_get_read}
use Rattle.rh_checks.specs.Sums.{IsSpan}
use Rattle.rh_checks.proofs.Spans.{piece_more}
use Rattle.rh_checks.proofs.sums.span_of.Goals as goal

pub loop-piece-preserved : goal.loop-piece-preserved
loop-piece-preserved c =
    let pieces = c.args.pieces.now in
    let i = c.loop-piece.piece-index in
    let there : slice_get pieces i ≡ Some c.piece-item.result = slice_get_read pieces (length pieces) _ _ refl (search rules) c.piece-item.is in
    let before = flat_map (λ piece. piece.items) (take i pieces) in
    piece_more (λ piece. piece.items) pieces i c.piece-item.result c.with_numbers-span.result there
    (subst (λ l. IsSpan (before ++ l) c.with_numbers-span.result) c.deref.ensures.value (c.with_numbers-span.ensures before c.loop-piece.invariant))
