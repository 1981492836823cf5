use Rattle.std.proofs.Common.{rules, subst, arith, List, ℕ}
use Rattle.std.specs.List.{flat_map}
use Rattle.std.proofs.lemmas.List.{take_all}
use Rattle.std.proofs.lemmas.Result.{IfOk-at_ok}
use Rattle.rh_cutting.specs.Borders.{AreParts, IsCut}
use Rattle.rh_cutting.proofs.CutLemmas.{no_piece, piece_more}
use Rattle.rh_cutting.proofs.lists.cut_each.Goals as goal

pub loop-piece-init : goal.loop-piece-init
loop-piece-init c = no_piece c.args.borders.now.values.items _ (search rules)

pub loop-piece-preserved : goal.loop-piece-preserved
loop-piece-preserved c =
    let borders = c.args.borders.now.values.items in
    let are = IfOk-at_ok (λ (parts : List (List ℕ)). AreParts borders c.deref.result.now parts) c.in_ok-parts.was c.cut_piece.ensures in
    piece_more (λ k. k.items) borders c.args.pieces.now c.loop-piece.piece-index c.piece-item.result c.loop-piece.cut.items c.push.new.self.items c.in_ok-parts.parts
    (omega arith) c.piece-item.is c.in_ok-push.ensures.items c.loop-piece.invariant
    (subst (λ (keys : List ℕ). AreParts borders keys c.in_ok-parts.parts) c.deref.ensures.value are)

pub returns : goal.returns
returns c =
    subst (λ ps. IsCut c.args.borders.now.values.items (flat_map (λ k. k.items) ps) c.loop-piece.cut.items) (take_all c.loop-piece.piece-index c.args.pieces.now (omega arith)) c.loop-piece.invariant
