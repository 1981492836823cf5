use Rattle.std.proofs.Common.{◌≡◌, ◌∙◌, ap, ◌++◌, List, ℕ, length}
use Rattle.rh_interleaving.proofs.Dealing.{dealt_next}
use Rattle.rh_interleaving.proofs.set_up.deal.Goals as goal

pub loop-piece-preserved : goal.loop-piece-preserved
loop-piece-preserved c =
    let keys = c.loop-piece.keys.items in
    let first : c.len-first.result ≡ length keys = c.len-first.ensures ∙ c.loop-piece.keys.ok.0 in
    let end : c.len-end.result ≡ length c.extend_from_slice.new.self.items = c.len-end.ensures ∙ c.extend_from_slice.new.self.ok.0 in
    let next = dealt_next c.args.pieces.now keys c.loop-piece.shares.items c.loop-piece.piece-index c.piece-item.result c.loop-piece-test.true c.piece-item.is
    c.loop-piece.invariant.keys c.loop-piece.invariant.parts c.loop-piece.invariant.each c.len-first.result c.len-end.result c.extend_from_slice.new.self.items c.push.new.self.items
    first (c.in_ok-extend_from_slice.ensures.items ∙ ap (λ (piece : List ℕ). keys ++ piece) c.deref.ensures.value) end c.in_ok-push.ensures.items in
    record { keys = next.0; parts = next.1; each = next.2 }
