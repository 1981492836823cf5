use Rattle.std.proofs.Common.{◌≡◌, ◌∙◌, ap, arith, ℕ, ◌+◌, slice_index_or}
use Rattle.std.specs.Prelude.{map}
use Rattle.rh_combine.specs.Grid.{in_part}
use Rattle.rh_combine.specs.declared.ranges.TheConstants.{IN_A_TABLE}
use Rattle.rh_combine.proofs.RangeLemmas.{all_parts_by, are_keys, edge-below, edge-narrow, edge-rises, len-within, none_yet, part_more, part_within_by, few_by_total}
use Rattle.rh_combine.proofs.ranges.+of_lists.Goals as goal

pub by_table-requires-clause-keys : goal.by_table-requires-clause-keys
by_table-requires-clause-keys t c = are_keys (λ k. k.now) c.args.from c.args.to c.args.lists.now c.requires.limit c.requires.range

pub by_table-requires-clause-few : goal.by_table-requires-clause-few
by_table-requires-clause-few t c = few_by_total (λ k. k.now) c.args.lists.now IN_A_TABLE c.total-many.result (c.suits_a_table.ensures c.if-suits_a_table.true) c.total-many.ensures

pub by_table-requires-then-width-clause-keys :
    goal.by_table-requires-then-width-clause-keys
by_table-requires-then-width-clause-keys t c = are_keys (λ k. k.now) c.args.from c.args.to c.args.lists.now c.requires.limit c.requires.range

pub by_table-requires-then-width-clause-few :
    goal.by_table-requires-then-width-clause-few
by_table-requires-then-width-clause-few t c =
    let few = len-within c.extent-least.result.0 c.extent-least.result.1 _ c.extent-least.ensures.all in
    omega (arith, few)

pub loop-part-init : goal.loop-part-init
loop-part-init t c = c.new-out.ensures.items ∙ none_yet c.grid_of-grid.result _ c.grid_of-grid.ensures.grid

cut_there : (t : ℕ) (c : goal.After-edge-in-loop-part t) → map (λ k. k.now) c.deref-in-loop-part.result.now ≡ map (in_part c.grid_of-grid.result c.loop-part.part) (map (λ k. k.now) c.args.lists.now)
cut_there t c =
    ap (map (λ k. k.now)) c.deref-in-loop-part.ensures.value
    ∙ c.in_ok-there.ensures c.new-out.result
    ∙ ap (map (λ v. (slice_index_or v.items c.loop-part.part c.new-out.result).items)) c.deref.ensures.value
    ∙ c.in_ok-cuts.ensures.parts c.loop-part.part c.new-out.result (omega arith)

pub of_lists-requires : goal.of_lists-requires
of_lists-requires t c =
    let grid = c.grid_of-grid.result in
    let is = c.grid_of-grid.ensures.grid in
    let p = c.loop-part.part in
    let narrow = edge-narrow grid is p in (
      omega (arith, narrow, c.edge.ensures, c.edge-in-loop-part.ensures, c.grid_of-grid.ensures.narrower, c.extent-least.ensures.from, c.extent-least.ensures.to, c.decreases),
      (
        omega (arith, edge-rises grid is p, c.edge.ensures, c.edge-in-loop-part.ensures),
        (
          omega (arith, edge-below grid is (p + 1), c.edge-in-loop-part.ensures, c.grid_of-grid.ensures.to, c.extent-least.ensures.to, c.requires.limit),
          part_within_by grid p c.edge.result c.edge-in-loop-part.result _ _ c.edge.ensures c.edge-in-loop-part.ensures (cut_there t c),
        ),
      ),
    )

pub loop-part-preserved : goal.loop-part-preserved
loop-part-preserved t c =
    let grid = c.grid_of-grid.result in
    part_more grid c.loop-part.part c.args.how (map (λ k. k.now) c.args.lists.now) (map (λ k. k.now) c.deref-in-loop-part.result.now) c.loop-part.out.items _ _ c.grid_of-grid.ensures.grid
    (ap (map (λ k. k.now)) c.deref-in-loop-part.ensures.value
    ∙ c.in_ok-there.ensures c.new-out.result
    ∙ ap (map (λ v. (slice_index_or v.items c.loop-part.part c.new-out.result).items)) c.deref.ensures.value
    ∙ c.in_ok-cuts.ensures.parts c.loop-part.part c.new-out.result (omega arith))
    c.loop-part.invariant c.in_ok-more.ensures c.in_ok-append.ensures.items

pub returns : goal.returns
returns t c =
    all_parts_by c.grid_of-grid.result c.extent-least.result.0 c.extent-least.result.1 c.args.how _ _ c.loop-part.part c.grid_of-grid.ensures.grid c.grid_of-grid.ensures.from c.grid_of-grid.ensures.to c.extent-least.ensures.all (omega arith) c.loop-part.invariant
