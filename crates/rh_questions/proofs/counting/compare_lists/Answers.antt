use Rattle.std.proofs.Common.{◌∙◌, ◌+◌, ◌-◌, ◌^◌, ap, arith, length, sym}
use Rattle.std.specs.Prelude.{map}
use Rattle.std.proofs.lemmas.List.{length-map}
use Rattle.std.proofs.lemmas.Result.{IfOk-weaker}
use Rattle.rh_layout.specs.declared.limits.TheConstants.{MAX_KEY}
use Rattle.rh_cutting.specs.Pieces.{keys_in}
use Rattle.rh_combine_workers.proofs.GroupLemmas.{all_parts, keys_of_lists}
use Rattle.rh_combine_workers.proofs.QuestionLemmas.{few_answered}
use Rattle.rh_questions.specs.Tallies.{combined}
use Rattle.rh_questions.proofs.TallyLemmas.{as_many_cut, combined_by}
use Rattle.rh_questions.proofs.counting.compare_lists.Goals as goal

pub count_all-requires-clause-few : goal.count_all-requires-clause-few
count_all-requires-clause-few g c lifetimes bounds =
    omega (arith, c.requires.few, as_many_cut c.args.lists.items c.in_ok-cut.cut c.in_ok-cut.ensures, length-map c.args.lists.items keys_in)

pub returns : goal.returns
returns g c =
    let lists = map keys_in c.args.lists.items in
    let borders = c.in_ok-cut.cut.borders.values.items in
    let are = c.in_ok-cut.ensures in
    let all = keys_of_lists c.args.lists.items in
    let many = ap (λ n. 2 ^ n) (as_many_cut c.args.lists.items c.in_ok-cut.cut are) in
    IfOk-weaker c.count_all.result _ _ (λ v counts. record {
      len = counts.len ∙ sym many;
      each = λ x inside.
          let whole = all_parts (λ lists. combined lists x) (combined_by x) borders are.borders lists all in
          let few = few_answered (λ lists. combined lists x) (combined_by x) 0 (MAX_KEY + 1) lists all in
          omega (arith, counts.each lists are x (omega (arith, inside, many)), few, ap length whole);
    }) (c.count_all.ensures (length borders - 1) (omega (arith, are.borders.some)))
