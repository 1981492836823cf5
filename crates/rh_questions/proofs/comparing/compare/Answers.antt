use Rattle.std.proofs.Common.{◌≡◌, ◌∙◌, ◌^◌, ◌<◌, ap, arith, count_by, length, subst, sym}
use Rattle.std.specs.Prelude.{All, map, ◌==◌}
use Rattle.std.proofs.lemmas.List.{length-map}
use Rattle.std.proofs.lemmas.List.Sums.{count_by-le-length}
use Rattle.rh_questions.specs.declared.rows.Row.{Row}
use Rattle.rh_questions.specs.Tallies.{tally}
use Rattle.rh_questions.proofs.TallyLemmas.{codes_below, rows_tallied}
use Rattle.rh_questions.proofs.comparing.compare.Goals as goal

pub count_rows-requires : goal.count_rows-requires
count_rows-requires c =
    let lists = map (λ l. l.now) c.args.lists.now in
    let room : length c.in_ok-counts.counts.items ≡ 2 ^ length lists = c.in_ok-counts.ensures.len ∙ ap (λ n. 2 ^ n) (sym (length-map c.args.lists.now (λ l. l.now))) in
    rw c.deref.ensures.value
    (subst (λ n. All (λ (r : Row). r.lists < n) c.in_ok-rows.rows.items) (sym room) (codes_below lists c.in_ok-rows.rows.items c.in_ok-rows.ensures))

pub returns : goal.returns
returns c =
    let lists = map (λ l. l.now) c.args.lists.now in
    let rows = c.in_ok-rows.rows.items in
    let many : 2 ^ length c.args.lists.now ≡ 2 ^ length lists = ap (λ n. 2 ^ n) (sym (length-map c.args.lists.now (λ l. l.now))) in
    record {
      len = c.count_rows.ensures.len ∙ c.in_ok-counts.ensures.len ∙ many;
      each = λ x inside.
          let counted = c.count_rows.ensures.counts x 0 (omega (arith, inside, c.in_ok-counts.ensures.len, many)) (c.in_ok-counts.ensures.none x (omega (arith, inside, many))) in
          let same : count_by (λ (r : Row). r.lists == x) c.deref.result.now ≡ tally lists x = ap (count_by (λ (r : Row). r.lists == x)) c.deref.ensures.value ∙ rows_tallied lists rows c.in_ok-rows.ensures x in
          omega (arith, counted, same, count_by-le-length (λ (r : Row). r.lists == x) c.deref.result.now, c.deref.type_inv.0);
    }
