use Rattle.std.proofs.lemmas.Result.{err_from_is_err_and}
use Rattle.rh_key_texts.proofs.Pieces.{all_written, front_written}
use Rattle.rh_key_texts.proofs.listing.list_keys.Goals as goal

pub returns-in_err-write_pieces-clause-listed : goal.returns-in_err-write_pieces-clause-listed
returns-in_err-write_pieces-clause-listed g c =
    let p = err_from_is_err_and c.from_residual-in_err-write_pieces.result c.from_residual-in_err-write_pieces.ensures.1 in
    rw (p.1, p.2) (front_written (λ piece. piece.items) _ _ _ _ c.in_ok-pieces.pieces.items _ c.deref.ensures.value c.in_ok-pieces.ensures.spelled c.in_err-write_pieces.ensures.front)

pub returns-clause-listed : goal.returns-clause-listed
returns-clause-listed g c = all_written (λ piece. piece.items) _ _ _ _ c.in_ok-pieces.pieces.items _ c.deref.ensures.value c.in_ok-pieces.ensures.spelled c.in_ok-write_pieces.ensures.appended
