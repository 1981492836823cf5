use Rattle.std.proofs.Common.{◌≡◌, ◌∙◌, ◌+◌, List, ap, arith, length, slice_index}
use Rattle.std.specs.Prelude.{map}
use Rattle.std.proofs.Math.Logic.{∥∥₁_elim}
use Rattle.std.proofs.Props.{props}
use Rattle.std.proofs.lemmas.List.{length-map}
use Rattle.std.proofs.lemmas.Result.{IfOk-weaker}
use Rattle.rh_combine.proofs.RangeLemmas.{are_keys, range_within}
use Rattle.rh_cutting.specs.Borders.{part_of}
use Rattle.rh_cutting.proofs.BorderLemmas.{all_keys_below}
use Rattle.rh_cutting.proofs.CutLemmas.{of_lists, parts_inside}
use Rattle.rh_combine_workers.proofs.part.lists_of_part.Goals as goal

pub all_gathered-requires : goal.all_gathered-requires
all_gathered-requires c =
    ∥∥₁_elim c.args.cut.now.of_lists (Prim.hlevel props)
    (λ of. rw c.deref.ensures.value (parts_inside (λ l. l.items) c.args.cut.now.borders.values.items c.args.part c.args.cut.now.lists.items c.requires.part of.1.many))

as_many : {X Y Z : Type 0} (f : X → Z) (h : Y → Z) (xs : List X) (ys : List Y) → map f xs ≡ map h ys → length xs ≡ length ys
as_many f h xs ys same = omega (arith, ap length same, length-map xs f, length-map ys h)

pub returns-clause-many : goal.returns-clause-many
returns-clause-many c =
    IfOk-weaker c.all_gathered.result _ _
    (λ v is. as_many (λ k. k.items) (λ l. part_of l.items c.args.part) v.items c.deref.result.now is ∙ ap length c.deref.ensures.value) c.all_gathered.ensures

pub returns-clause-keys : goal.returns-clause-keys
returns-clause-keys c =
    let borders = c.args.cut.now.borders.values.items in
    let from = slice_index borders c.args.part in
    let to = slice_index borders (c.args.part + 1) in
    ∥∥₁_elim c.args.cut.now.of_lists (Prim.hlevel props)
    (λ of. IfOk-weaker c.all_gathered.result _ _
    (λ v is. are_keys (λ l. l.items) from to v.items (all_keys_below borders c.args.cut.now.borders.are (c.args.part + 1) c.requires.part)
    (range_within from to of.0 _ (is ∙ ap (map (λ l. part_of l.items c.args.part)) c.deref.ensures.value
    ∙ of_lists (λ l. l.items) borders of.0 c.args.cut.now.lists.items c.args.part of.1 c.requires.part))) c.all_gathered.ensures)

pub returns-clause-each : goal.returns-clause-each
returns-clause-each c lists are =
    IfOk-weaker c.all_gathered.result _ _
    (λ v is. is ∙ ap (map (λ l. part_of l.items c.args.part)) c.deref.ensures.value
    ∙ of_lists (λ l. l.items) c.args.cut.now.borders.values.items lists c.args.cut.now.lists.items c.args.part are.parts c.requires.part) c.all_gathered.ensures
