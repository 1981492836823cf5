use Rattle.std.proofs.Common.{◌≡◌, ◌∙◌, ◌+◌, ◌^◌, ◌<◌, ap, arith, count_by, length, slice_index, subst, sym}
use Rattle.std.specs.Prelude.{All, map, ◌==◌}
use Rattle.std.proofs.lemmas.List.{length-map}
use Rattle.rh_cutting.specs.Borders.{between}
use Rattle.rh_questions.specs.declared.rows.Row.{Row}
use Rattle.rh_questions.specs.Tallies.{IsCount, combined, tally}
use Rattle.rh_questions.proofs.TallyLemmas.{codes_below, combined_within, rows_tallied}
use Rattle.rh_questions.proofs.counting.count_part.Goals as goal

pub count_rows-requires : goal.count_rows-requires
count_rows-requires c =
    let lists = map (λ l. l.now) c.deref-2.result.now in
    let many : length lists ≡ length c.args.cut.now.lists.items =
    omega (arith, length-map c.deref-2.result.now (λ l. l.now), ap length c.deref-2.ensures.value, c.in_ok-slices.ensures.many, ap length c.deref.ensures.value, c.in_ok-mine.ensures.many) in
    rw c.deref-3.ensures.value
    (subst (λ n. All (λ (r : Row). r.lists < n) c.in_ok-rows.rows.items) (ap (λ n. 2 ^ n) many ∙ sym c.requires.room)
    (codes_below lists c.in_ok-rows.rows.items c.in_ok-rows.ensures))

pub returns-clause-counts : goal.returns-clause-counts
returns-clause-counts c lists are x n inside is =
    let borders = c.args.cut.now.borders.values.items in
    let part = c.args.part in
    let mine = map (λ l. l.now) c.deref-2.result.now in
    let these : mine ≡ map (between borders part (part + 1)) lists =
    ap (map (λ l. l.now)) c.deref-2.ensures.value ∙ c.in_ok-slices.ensures.same ∙ ap (map (λ l. l.items)) c.deref.ensures.value ∙ c.in_ok-mine.ensures.each lists are in
    let counted : count_by (λ (r : Row). r.lists == x) c.deref-3.result.now ≡ length (between borders part (part + 1) (combined lists x)) =
    ap (count_by (λ (r : Row). r.lists == x)) c.deref-3.ensures.value ∙ rows_tallied mine c.in_ok-rows.rows.items c.in_ok-rows.ensures x
    ∙ ap (λ l. tally l x) these ∙ ap length (combined_within (slice_index borders part) (slice_index borders (part + 1)) lists x) in
    subst (λ k. IsCount c.count_rows.new.counts.items x (n + k)) counted (c.count_rows.ensures.counts x n inside is)
