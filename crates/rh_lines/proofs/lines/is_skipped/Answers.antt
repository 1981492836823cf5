use Rattle.std.proofs.Common.{rules, tests, arith}
use Rattle.std.proofs.lemmas.Iterator.{YieldsList-from_slice}
use Rattle.std.proofs.lemmas.Iterator.Search.{all_from_yields_List}
use Rattle.rh_lines.specs.Lines.{is_space, is_skipped}
use Rattle.rh_lines.proofs.lines.is_skipped.Goals as goal

pub returns-else-starts_with : goal.returns-else-starts_with
unfolding is_skipped
returns-else-starts_with c =
    let all = all_from_yields_List is_space _ _ c.all.result c.all.ensures.ran (YieldsList-from_slice c.args.line.now cc) (λ x b q k. search (rules, tests)) in
    grind (arith, all, c.starts_with.ensures.value, c.if-starts_with.false)
