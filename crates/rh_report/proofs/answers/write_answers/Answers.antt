use Rattle.std.proofs.Common.{◌≡◌, ◌++◌, ◌<◌, min, codes, length, map, rules}
use Rattle.std.proofs.lemmas.Result.{err_from_is_err_and}
use Rattle.rh_bytes.proofs.Writing.{emitted_both, emitting_stops}
use Rattle.rh_report.specs.declared.answers.TheConstants.{ANSWERS_PER_LINE}
use Rattle.rh_report.specs.Texts.{digit_of, digits_from}
use Rattle.rh_report.proofs.AnswerLemmas.{line_and_rest, one_line_more}
use Rattle.rh_report.proofs.answers.write_answers.Goals as goal

pub returns-in_err-write_answer_line : goal.returns-in_err-write_answer_line
returns-in_err-write_answer_line g c =
    let p = err_from_is_err_and c.from_residual.result c.from_residual.ensures.1 in
    let rest = c.loop-rest.rest.now in
    let some : 0 < length rest = search rules in
    let n : c.min.result ≡ min (length rest) ANSWERS_PER_LINE = search rules in
    let line = line_and_rest rest c.split_at.result.0.now c.split_at.result.1.now c.min.result some n c.split_at.ensures.front c.split_at.ensures.back in
    rw p.1 (emitting_stops _ _ _ c.loop-rest.invariant.text _ (digits_from 0 c.split_at.result.1.now) _ (one_line_more c.args.answers.now rest c.split_at.result.1.now _ _ c.loop-rest.invariant.parts line) c.loop-rest.invariant.written c.in_err-write_answer_line.ensures)

pub loop-rest-preserved : goal.loop-rest-preserved
loop-rest-preserved g c =
    let rest = c.loop-rest.rest.now in
    let some : 0 < length rest = search rules in
    let n : c.min.result ≡ min (length rest) ANSWERS_PER_LINE = search rules in
    let line = line_and_rest rest c.split_at.result.0.now c.split_at.result.1.now c.min.result some n c.split_at.ensures.front c.split_at.ensures.back in
    record {
      text = c.loop-rest.invariant.text ++ (map digit_of c.split_at.result.0.now ++ codes "\n");
      parts = one_line_more c.args.answers.now rest c.split_at.result.1.now _ _ c.loop-rest.invariant.parts line;
      written = emitted_both _ _ _ _ _ c.loop-rest.invariant.written c.in_ok-write_answer_line.ensures;
    }
