use Rattle.std.proofs.Common.{◌∙◌, sym, ap}
use Rattle.std.proofs.lemmas.Bool.{and_from}
use Rattle.rh_interleaving.specs.Start.{are_keys}
use Rattle.rh_interleaving.proofs.Starting.{bad_piece, keys_more}
use Rattle.rh_interleaving.proofs.start.are_all_keys.Goals as goal

pub returns-then-not-are_keys : goal.returns-then-not-are_keys
returns-then-not-are_keys c =
    sym (bad_piece c.args.pieces.now c.loop-piece.piece-index c.piece-item.result c.piece-item.result c.loop-piece-test.true c.piece-item.is
    (ap are_keys (sym c.deref.ensures.value) ∙ sym c.are_keys.ensures ∙ c.if-not-are_keys.true))

pub loop-piece-preserved : goal.loop-piece-preserved
loop-piece-preserved c =
    keys_more c.args.pieces.now c.loop-piece.piece-index c.piece-item.result c.piece-item.result c.loop-piece-test.true c.piece-item.is
    ∙ and_from _ _ c.loop-piece.invariant (ap are_keys (sym c.deref.ensures.value) ∙ sym c.are_keys.ensures ∙ c.if-not-are_keys.false)
