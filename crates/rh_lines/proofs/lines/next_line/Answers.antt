use Rattle.std.proofs.Common.{rules, tests, arith}
use Rattle.std.proofs.lemmas.Iterator.{YieldsList-from_slice}
use Rattle.std.proofs.lemmas.Iterator.Search.{position_from_yields_List}
use Rattle.rh_lines.specs.Lines.{is_line_feed}
use Rattle.rh_lines.proofs.Splitting.{last_line, line_found, no_line_left}
use Rattle.rh_lines.proofs.lines.next_line.Goals as goal

pub returns-in-Some : goal.returns-in-Some
returns-in-Some c =
    line_found c.args.text.now c.position.result c.in-Some.end (position_from_yields_List is_line_feed _ _ c.position.result c.position.ensures.ran (YieldsList-from_slice c.args.text.now cc) (λ x b q k. search (rules, tests))) c.in-Some.is

pub returns-in-None : goal.returns-in-None
returns-in-None c = no_line_left c.args.text.now (grind arith)

pub returns-in-None-2 : goal.returns-in-None-2
returns-in-None-2 c =
    last_line c.args.text.now c.position.result (position_from_yields_List is_line_feed _ _ c.position.result c.position.ensures.ran (YieldsList-from_slice c.args.text.now cc) (λ x b q k. search (rules, tests))) c.in-None-2.is (grind arith)
