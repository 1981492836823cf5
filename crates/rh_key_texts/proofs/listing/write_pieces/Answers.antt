use Rattle.std.proofs.Common.{◌≡◌, ◌∙◌, ap, arith, subst, suc, drop, get_or, take}
use Rattle.std.specs.List.{flat_map}
use Rattle.std.proofs.lemmas.Result.{err_from_is_err_and}
use Rattle.rh_bytes.specs.Counting.{EmittedFront}
use Rattle.rh_bytes.proofs.Writing.{emitting_stops, split_at_place}
use Rattle.rh_numbers.specs.Writing.{text_of}
use Rattle.rh_key_texts.proofs.listing.write_pieces.Goals as goal

pub returns-in_err-write_numbers : goal.returns-in_err-write_numbers
returns-in_err-write_numbers g c =
    let p = err_from_is_err_and c.from_residual.result c.from_residual.ensures.1 in
    let i = c.loop-piece.piece-index in
    let pieces = c.args.pieces.now in
    let d = c.piece-item.result in
    let keys : c.deref.result.now ≡ (get_or pieces i d).items = c.deref.ensures.value ∙ ap (λ v. v.items) c.piece-item.is in
    rw p.1
    (emitting_stops _ _ _ (flat_map (λ x. text_of x.items) (take i pieces)) (text_of (get_or pieces i d).items) (flat_map (λ x. text_of x.items) (drop (suc i) pieces)) (flat_map (λ x. text_of x.items) pieces)
    (split_at_place (λ x. text_of x.items) pieces i d (omega arith)) c.loop-piece.invariant (subst (EmittedFront _ _ _) (ap text_of keys) c.in_err-write_numbers.ensures))
