use Rattle.std.proofs.Common.{◌≡◌, ◌+◌, ap, arith, subst, length, vec_len}
use Rattle.std.specs.Prelude.{map}
use Rattle.std.proofs.lemmas.List.{length-map}
use Rattle.std.proofs.lemmas.Result.{IfOk-weaker}
use Rattle.rh_bytes.specs.Counting.{Writes, inner_of}
use Rattle.rh_layout.specs.declared.limits.TheConstants.{MAX_KEY}
use Rattle.rh_cutting.specs.Borders.{between, part_of}
use Rattle.rh_cutting.specs.Pieces.{keys_in}
use Rattle.rh_combine_workers.specs.Spelled.{spelled}
use Rattle.rh_combine_workers.proofs.GroupLemmas.{all_parts, keys_of_lists}
use Rattle.rh_combine_workers.proofs.QuestionLemmas.{few_answered}
use Rattle.rh_combine_workers.proofs.writing.write_answer.Goals as goal

pub write_rounds-requires-clause-takes : goal.write_rounds-requires-clause-takes
write_rounds-requires-clause-takes g c lifetimes bounds =
    let cut = c.in_ok-cut.cut in
    let are = c.in_ok-cut.ensures in
    let each = ap length (are.parts.each 0 (omega (arith, are.borders.some))) in
    let same : vec_len c.args.lists ≡ length cut.lists.items =
    omega (arith, each, length-map (map (λ l. l.items) cut.lists.items) (λ pieces. part_of pieces 0), length-map cut.lists.items (λ l. l.items), length-map (map keys_in c.args.lists.items) (between cut.borders.values.items 0 1), length-map c.args.lists.items keys_in) in
    subst (g.Q.Question.takes c.args.question.now) same c.requires.takes

pub returns : goal.returns
returns g c =
    let answer = g.Q.Question.answer c.args.question.now in
    let by = c.by_number.ensures in
    let lists = map keys_in c.args.lists.items in
    let are = c.in_ok-cut.ensures in
    let all = keys_of_lists c.args.lists.items in
    let whole = all_parts answer by c.in_ok-cut.cut.borders.values.items are.borders lists all in
    let few = few_answered answer by 0 (MAX_KEY + 1) lists all in
    record {
      written = record {
        text = subst (λ numbers. Writes (g.W.Write.contents (inner_of c.args.writer.now)) (g.W.Write.contents (inner_of c.write_rounds.new.writer)) (spelled c.args.form numbers) c.write_rounds.result) whole (c.write_rounds.ensures.text lists are);
        count = IfOk-weaker c.write_rounds.result _ _ (λ n is. omega (arith, is, few, ap length whole)) (c.write_rounds.ensures.count lists are);
      };
      counts = c.write_rounds.ensures.counts;
    }
