use Rattle.std.proofs.Common.{◌≡◌, ◌∙◌, length, subst, rules}
use Rattle.std.specs.Prelude.{◌==◌}
use Rattle.rh_bytes.specs.Counting.{Emitted, EmittedFront, Emits}
use Rattle.rh_checks.specs.Texts.{report_text}
use Rattle.rh_checks.proofs.Spans.{none_listed}
use Rattle.rh_checks.proofs.checking.tell_list.Goals as goal

pub returns-in_default-write_report : goal.returns-in_default-write_report
returns-in_default-write_report g c =
    let report = c.in_ok-report.report in
    let text : c.as_bytes.result.now ≡ report_text c.args.place.now report = c.as_bytes.ensures.value ∙ c.in-Ok.ensures in
    let written : EmittedFront g.W.Write.contents c.args.writer.now c.write_report.new.writer c.as_bytes.result.now =
    subst (Emits g.W.Write.contents c.args.writer.now c.write_report.new.writer c.as_bytes.result.now) c.in_default-write_report.is c.write_report.ensures in
    let front = subst (EmittedFront g.W.Write.contents c.args.writer.now c.write_report.new.writer) text written in
    record {
      told = (report, c.in_ok-report.ensures.known, front.front);
      counts = search rules;
      text_read = search rules;
      keys_read = search rules;
      long = search rules;
    }

pub returns : goal.returns
returns g c =
    let report = c.in_ok-report.report in
    let text : c.as_bytes.result.now ≡ report_text c.args.place.now report = c.as_bytes.ensures.value ∙ c.in-Ok.ensures in
    let written : Emitted g.W.Write.contents c.args.writer.now c.write_report.new.writer c.as_bytes.result.now =
    subst (Emits g.W.Write.contents c.args.writer.now c.write_report.new.writer c.as_bytes.result.now) c.in-Ok-write_report.is c.write_report.ensures in
    let all = subst (Emitted g.W.Write.contents c.args.writer.now c.write_report.new.writer) text written in
    let empty : c.is_empty.result ≡ (length report.bad.items == 0) = search rules in
    record {
      told = (report, c.in_ok-report.ensures.known, (all.appended, none_listed c.is_empty.result report.bad.items empty));
      counts = search rules;
      text_read = search rules;
      keys_read = search rules;
      long = search rules;
    }
