use Rattle.std.proofs.Common.{◌≡◌, ◌∙◌, ◌<◌, ℕ, ap, arith, get_or, inl, inr, length, sym}
use Rattle.std.specs.Prelude.{slice_set, ◌==◌}
use Rattle.std.proofs.lemmas.Bool.{cases_eq, eq-eqb, ne_eqb}
use Rattle.std.proofs.lemmas.List.{get_or-set_other, get_or-set_same, get_or_default, length-set}
use Rattle.std.proofs.lemmas.List.Sums.{count_by_more_no, count_by_more_yes}
use Rattle.rh_questions.specs.declared.rows.Row.{Row}
use Rattle.rh_questions.proofs.comparing.count_rows.Goals as goal

pub loop-row-preserved : goal.loop-row-preserved
loop-row-preserved c =
    let none : Row = record { number = 0; lists = 0 } in
    let rows = c.args.rows.now in
    let counts = c.loop-row.counts.items in
    let i = c.loop-row.row-index in
    let at : ℕ = (get_or rows i none).lists in
    let there : i < length rows = omega (arith, c.loop-row-test.true) in
    let inside : at < length counts = omega (arith, c.requires i none there, c.loop-row.invariant.len) in
    let value : c.index.result.now ≡ get_or counts at 0 = c.index.ensures ∙ get_or_default counts at c.index.result.now 0 inside in
    let more : ℕ = c.saturating_add.result in
    record {
      len = length-set counts at more ∙ c.loop-row.invariant.len;
      counts = λ x n within is.
          let before = c.loop-row.invariant.counts x n within is in
          elim (cases_eq at x) [
            | inl same ↦
                let counted = count_by_more_yes (λ (r : Row). r.lists == x) rows i none there (eq-eqb at x same) in
                let new : get_or (slice_set counts at more) x 0 ≡ more = ap (λ n. get_or (slice_set counts at more) n 0) (sym same) ∙ get_or-set_same counts at more 0 inside in
                omega (arith, new, value, c.saturating_add.ensures, ap (λ n. get_or counts n 0) same, before, counted)
            | inr other ↦
                let counted = count_by_more_no (λ (r : Row). r.lists == x) rows i none there (ne_eqb at x other) in
                omega (arith, get_or-set_other counts at x more 0 (λ e. other (sym e)), before, counted)
          ];
    }
