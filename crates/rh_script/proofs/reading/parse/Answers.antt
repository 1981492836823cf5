use Rattle.std.proofs.Common.{arith}
use Rattle.rh_lines.specs.Lines.{lines_of}
use Rattle.rh_lines.proofs.Reading.{all_done, begun, gone_on, refused}
use Rattle.rh_script.specs.Grammar.{script_grammar}
use Rattle.rh_script.proofs.Numbering.{no_step_numbered}
use Rattle.rh_script.proofs.Order.{read_in_order}
use Rattle.rh_script.proofs.reading.parse.Goals as goal

pub loop-line-init : goal.loop-line-init
loop-line-init c = record {
  few = omega arith;
  stands = rw c.new-2.ensures.items (begun script_grammar (lines_of c.args.text.now));
  known = rw c.new-2.ensures.items (record { kept = c.new.ensures; numbered = no_step_numbered });
}

pub returns-in-Err-clause-refused : goal.returns-in-Err-clause-refused
returns-in-Err-clause-refused c known =
    refused script_grammar c.args.text.now c.loop-line.reading.line _ _ c.in-Err.kind _ _ _ c.loop-line.invariant.stands c.in-Some.ensures c.read_line.ensures.line (c.in-Err.ensures.read known)

pub loop-line-preserved : goal.loop-line-preserved
loop-line-preserved c = record {
  few = c.in_default-read_line.ensures.few;
  stands = gone_on script_grammar (lines_of c.args.text.now) c.loop-line.reading.line _ _ _ _ _ _ c.loop-line.invariant.stands c.in-Some.ensures c.read_line.ensures.line c.in_default-read_line.ensures.read;
  known = c.in_default-read_line.ensures.known;
}

pub invariant_of-result : goal.invariant_of-result
invariant_of-result c = record {
  in_order = read_in_order c.args.text.now _ (all_done script_grammar c.args.text.now _ _ _ c.loop-line.invariant.stands c.in_default.ensures);
  numbered = c.loop-line.invariant.known.numbered;
}
