use Rattle.std.proofs.Common.{◌≡◌, ◌∙◌, ap, subst, sym}
use Rattle.std.specs.Prelude.{map}
use Rattle.std.proofs.lemmas.List.{map-id}
use Rattle.std.proofs.lemmas.Iterator.Adapters.{YieldsList-from_vec}
use Rattle.std.proofs.lemmas.Iterator.Consumers.{YieldsList-end}
use Rattle.rh_cutting.specs.Pieces.{keys_in}
use Rattle.rh_cutting.specs.Borders.{AreCut, IsCut}
use Rattle.rh_cutting.proofs.CutLemmas.{cut_more, none_cut}
use Rattle.rh_cutting.proofs.lists.cut_lists.Goals as goal

pub loop-list-init : goal.loop-list-init
loop-list-init g c = none_cut c.in_ok-borders.borders.values.items _ (ap (map (λ v. v.items)) c.in_ok-cut.ensures.items)

pub loop-list-preserved : goal.loop-list-preserved
loop-list-preserved g c =
    let borders = c.in_ok-borders.borders.values.items in
    let pieces = c.in_ok-pieces.pieces.items in
    cut_more keys_in (λ v. v.items) borders c.loop-list.yielded c.in-Some.list c.loop-list.cut.items c.push.new.self.items c.in_ok-pieces.pieces
    c.in_ok-push.ensures.items c.loop-list.invariant
    (subst (λ keys. IsCut borders keys pieces) c.pieces.ensures.keys c.in_ok-pieces.ensures)

pub invariant_of-result : goal.invariant_of-result
invariant_of-result g c = record { of_lists = ∣ (map keys_in c.loop-list.yielded, c.loop-list.invariant) ∣₁ }

pub returns : goal.returns
returns g c =
    let gives = c.into_iter-list-iterator.ensures.into_iter_gives in
    let end = YieldsList-end (YieldsList-from_vec {s = c.into_iter-list-iterator.result} c.args.lists.items gives.0 (gives.1 ∙ c.args.lists.ok.0)) c.loop-list.yielded c.loop-list.list-iterator c.loop-list.yielded_by c.next.result c.next.new.self c.in-None.is c.next.ensures.steps in
    let all : c.loop-list.yielded ≡ c.args.lists.items = sym (map-id c.loop-list.yielded) ∙ end.0 in
    record {
      borders = c.in_ok-borders.borders.are;
      parts = subst (λ ls. AreCut c.in_ok-borders.borders.values.items (map keys_in ls) (map (λ v. v.items) c.loop-list.cut.items)) all c.loop-list.invariant;
    }
