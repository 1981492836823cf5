use Rattle.std.proofs.Common.{◌≡◌, ◌≤◌, ◌∙◌, ◌-◌, ◌^◌, ap, arith, length, refl, rules, subst}
use Rattle.std.specs.Prelude.{IfOk, min, sum_by}
use Rattle.std.specs.List.{flat_map}
use Rattle.std.specs.Io.KnownBytes.{Appends}
use Rattle.std.proofs.lemmas.Result.{err_from_is_err_and}
use Rattle.rh_bytes.specs.Counting.{AppendsFront, Emits, inner_of}
use Rattle.rh_cutting.specs.Borders.{between}
use Rattle.rh_combine_workers.specs.Groups.{IsRound, group_edge, parts_of}
use Rattle.rh_combine_workers.specs.Spelled.{spelled}
use Rattle.rh_combine_workers.proofs.RoundLemmas.{count_more, none_counted, none_yet, nothing_written, round_fails, round_more}
use Rattle.rh_combine_workers.proofs.writing.write_rounds.Goals as goal

pub loop-first-init : goal.loop-first-init
loop-first-init g c =
    let answer = g.Q.Question.answer c.args.question.now in
    let by = c.by_number.ensures in
    let borders = c.args.cut.now.borders.values.items in
    record {
      inside = omega arith;
      made = c.in_ok-done.ensures;
      written = λ lists are. none_yet answer by c.args.form borders are.borders lists _ 0;
      count = λ lists are. none_counted answer by c.args.form borders are.borders lists 0;
      fine = refl;
    }

pub returns-in_err-written : goal.returns-in_err-written
returns-in_err-written g c =
    let p = err_from_is_err_and c.from_residual-in_err-written.result c.from_residual-in_err-written.ensures.1 in
    let answer = g.Q.Question.answer c.args.question.now in
    let by = c.by_number.ensures in
    let cut = c.args.cut.now in
    let borders = cut.borders.values.items in
    let first = c.loop-first.first in
    let next = group_edge first c.args.team.now.workers.count c.group_size-size.result (parts_of cut) in
    let on : first ≤ next = omega (arith, c.loop-first.invariant.inside, c.parts-parts.ensures) in
    let stopped = subst (Emits g.W.Write.contents c.loop-first.writer c.write_beside-made.new.writer (flat_map (λ x. x.bytes.items) c.deref.result.now)) c.in_err-written.was c.write_beside-made.ensures.written in
    record {
      text = λ lists are.
          let bytes = ap (flat_map (λ x. x.bytes.items)) c.deref.ensures.value ∙ c.loop-first.invariant.made.bytes lists are in
          rw p.1
          (round_fails answer by c.args.form borders are.borders lists 0 first next (omega arith) on (omega (arith, are.borders.some)) _ _ _ (parts_of cut) (omega arith) (omega (arith, are.borders.some))
          (c.loop-first.invariant.written lists are) (subst (AppendsFront _ _) bytes stopped.front));
      count = search rules;
      counts = search (rules, stopped.failed);
    }

pub returns-in_err-done-2 : goal.returns-in_err-done-2
returns-in_err-done-2 g c =
    let p = err_from_is_err_and c.from_residual-in_err-done-2.result c.from_residual-in_err-done-2.ensures.1 in
    let answer = g.Q.Question.answer c.args.question.now in
    let by = c.by_number.ensures in
    let cut = c.args.cut.now in
    let borders = cut.borders.values.items in
    let first = c.loop-first.first in
    let next = group_edge first c.args.team.now.workers.count c.group_size-size.result (parts_of cut) in
    let on : first ≤ next = omega (arith, c.loop-first.invariant.inside, c.parts-parts.ensures) in
    let wrote = subst (Emits g.W.Write.contents c.loop-first.writer c.write_beside-made.new.writer (flat_map (λ x. x.bytes.items) c.deref.result.now)) c.in_ok-written.was c.write_beside-made.ensures.written in
    record {
      text = λ lists are.
          let bytes = ap (flat_map (λ x. x.bytes.items)) c.deref.ensures.value ∙ c.loop-first.invariant.made.bytes lists are in
          let all = round_more answer by c.args.form borders are.borders lists 0 first next (omega arith) on (omega (arith, are.borders.some)) _ _ _ (c.loop-first.invariant.written lists are) (subst (Appends _ _) bytes wrote.appended) in
          rw p.1
          (round_fails answer by c.args.form borders are.borders lists 0 next next (omega arith) (omega arith) (omega (arith, are.borders.some)) _ _ _ (parts_of cut) (omega arith) (omega (arith, are.borders.some))
          all (nothing_written _ _));
      count = search rules;
      counts = search (rules, wrote.fine ∙ c.loop-first.invariant.fine);
    }

pub loop-first-preserved : goal.loop-first-preserved
loop-first-preserved g c =
    let answer = g.Q.Question.answer c.args.question.now in
    let by = c.by_number.ensures in
    let cut = c.args.cut.now in
    let borders = cut.borders.values.items in
    let first = c.loop-first.first in
    let parts : c.parts-parts.result ≡ parts_of cut = omega (arith, c.parts-parts.ensures) in
    let next = c.edge-next.result in
    let is : next ≡ group_edge first c.args.team.now.workers.count c.group_size-size.result (parts_of cut) = c.edge-next.ensures ∙ ap (group_edge first c.args.team.now.workers.count c.group_size-size.result) parts in
    let on : first ≤ next = omega (arith, is, c.loop-first.invariant.inside, parts) in
    let wrote = subst (Emits g.W.Write.contents c.loop-first.writer c.write_beside-made.new.writer (flat_map (λ x. x.bytes.items) c.deref.result.now)) c.in_ok-written.was c.write_beside-made.ensures.written in
    record {
      inside = omega (arith, c.edge-next.ensures);
      made = subst (λ r. IfOk r (λ v. IsRound answer c.args.form cut next (group_edge next c.args.team.now.workers.count c.group_size-size.result (parts_of cut)) v.items)) c.in_ok-done-2.was c.write_beside-made.ensures.next;
      written = λ lists are.
          let bytes = ap (flat_map (λ x. x.bytes.items)) c.deref.ensures.value ∙ c.loop-first.invariant.made.bytes lists are in
          rw is (round_more answer by c.args.form borders are.borders lists 0 first _ (omega arith) (omega (arith, is, on)) (omega (arith, are.borders.some)) _ _ _ (c.loop-first.invariant.written lists are) (subst (Appends _ _) bytes wrote.appended));
      count = λ lists are.
          let more = c.count_of.ensures ∙ ap (λ groups. min (sum_by (λ x. x.count) groups) (2 ^ 64 - 1)) c.deref-in-loop-first.ensures.value ∙ c.loop-first.invariant.made.count lists are in
          rw is (count_more answer by c.args.form borders are.borders lists 0 first _ (omega arith) (omega (arith, is, on)) (omega (arith, are.borders.some)) c.loop-first.count c.count_of.result _ (c.loop-first.invariant.count lists are) more c.saturating_add-count.ensures);
      fine = wrote.fine ∙ c.loop-first.invariant.fine;
    }

pub returns : goal.returns
returns g c =
    let answer = g.Q.Question.answer c.args.question.now in
    let borders = c.args.cut.now.borders.values.items in
    let end : c.loop-first.first ≡ parts_of c.args.cut.now = omega (arith, c.loop-first.invariant.inside, c.loop-first-test.false, c.parts-parts.ensures) in
    record {
      text = λ lists are. subst (λ n. Appends (g.W.Write.contents (inner_of c.args.writer.now)) (g.W.Write.contents (inner_of c.loop-first.writer)) (spelled c.args.form (between borders 0 n (answer lists)))) end (c.loop-first.invariant.written lists are);
      count = λ lists are. subst (λ n. c.loop-first.count ≡ min (length (between borders 0 n (answer lists))) (2 ^ 64 - 1)) end (c.loop-first.invariant.count lists are);
      counts = search (rules, c.loop-first.invariant.fine);
    }
