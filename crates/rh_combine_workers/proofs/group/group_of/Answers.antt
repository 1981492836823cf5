use Rattle.std.proofs.Common.{◌∙◌, ◌+◌, ◌++◌, ap, arith, sym, length}
use Rattle.rh_combine_workers.specs.Spelled.{spelled}
use Rattle.rh_combine_workers.proofs.RoundLemmas.{both_spelled, count_more, none_counted, nothing_spelled}
use Rattle.rh_combine_workers.proofs.group.group_of.Goals as goal

pub loop-part-init : goal.loop-part-init
loop-part-init g c =
    let answer = g.Q.Question.answer c.args.question.now in
    let by = g.met.Q.Question.by_number c.args.question.now in
    let borders = c.args.cut.now.borders.values.items in
    record {
      bytes = λ lists are. c.new-bytes.ensures.items ∙ sym (nothing_spelled answer by c.args.form borders are.borders lists c.args.from);
      count = λ lists are. none_counted answer by c.args.form borders are.borders lists c.args.from;
    }

pub loop-part-preserved : goal.loop-part-preserved
loop-part-preserved g c =
    let answer = g.Q.Question.answer c.args.question.now in
    let by = g.met.Q.Question.by_number c.args.question.now in
    let borders = c.args.cut.now.borders.values.items in
    let part = c.loop-part.part in
    record {
      bytes = λ lists are.
          let before = c.loop-part.invariant.bytes lists are in
          let here = c.in_ok-numbers.ensures lists are in
          c.in_ok-spell.ensures ∙ (λ j. before j ++ spelled c.args.form ((c.deref.ensures.value ∙ here) j))
          ∙ sym (both_spelled answer by c.args.form borders are.borders lists c.args.from part (part + 1) (omega arith) (omega arith) (omega arith));
      count = λ lists are.
          count_more answer by c.args.form borders are.borders lists c.args.from part (part + 1) (omega arith) (omega arith) (omega arith) c.loop-part.count c.len.result _
          (c.loop-part.invariant.count lists are) (omega (arith, c.len.ensures, ap length (c.in_ok-numbers.ensures lists are))) c.saturating_add-count.ensures;
    }
