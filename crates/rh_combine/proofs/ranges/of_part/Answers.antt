use Rattle.std.proofs.Common.{◌∙◌, ap, arith, slice_index_or}
use Rattle.std.specs.Prelude.{map}
use Rattle.std.proofs.lemmas.List.{take_all}
use Rattle.rh_combine.proofs.RangeLemmas.{list_more}
use Rattle.rh_combine.proofs.ranges.of_part.Goals as goal

pub loop-parts-preserved : goal.loop-parts-preserved
loop-parts-preserved c d =
    ap (map (λ k. k.now)) c.in_ok-push.ensures.items
    ∙ list_more (λ x. (slice_index_or x.items c.args.part d).items) (λ k. k.now) c.args.cuts.now c.loop-parts.parts-index c.parts-item.result c.loop-parts.found.items _ (omega arith) (c.loop-parts.invariant d) (c.piece-there.ensures d ∙ (λ j. (slice_index_or ((c.deref.ensures.value ∙ ap (λ v. v.items) c.parts-item.is) j) c.args.part d).items))

pub returns : goal.returns
returns c d = c.loop-parts.invariant d ∙ ap (map (λ x. (slice_index_or x.items c.args.part d).items)) (take_all c.loop-parts.parts-index c.args.cuts.now (omega arith))
