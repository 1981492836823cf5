use Rattle.std.proofs.Common.{◌∙◌, sym, rules, tests}
use Rattle.std.proofs.lemmas.Iterator.{YieldsList-from_slice}
use Rattle.std.proofs.lemmas.Iterator.Search.{all_from_yields_List}
use Rattle.std.proofs.lemmas.Result.{MatchResult-at_ok}
use Rattle.rh_lines.specs.Lines.{is_printable}
use Rattle.rh_lines.proofs.Printing.{can_be_text}
use Rattle.rh_lines.proofs.words.printable.Goals as goal

pub unwrap-requires : goal.unwrap-requires
unwrap-requires c =
    let all = all_from_yields_List is_printable _ _ c.all.result c.all.ensures.ran (YieldsList-from_slice c.args.line.now cc) (λ x b q k. search (rules, tests)) in
    can_be_text _ _ c.args.line.now c.from_utf8.result (sym all ∙ c.if-not-all.false) c.from_utf8.ensures.cases

pub returns : goal.returns
returns c =
    let all = all_from_yields_List is_printable _ _ c.all.result c.all.ensures.ran (YieldsList-from_slice c.args.line.now cc) (λ x b q k. search (rules, tests)) in
    ((MatchResult-at_ok _ _ c.unwrap.result c.unwrap.ensures c.from_utf8.ensures.cases).0, sym all ∙ c.if-not-all.false)
