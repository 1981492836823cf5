use Rattle.std.proofs.Common.{◌∙◌, ap, rules, take, tests}
use Rattle.std.specs.Prelude.{length, unwrap_or}
use Rattle.std.proofs.lemmas.Iterator.{YieldsList-from_slice}
use Rattle.std.proofs.lemmas.Iterator.Search.{position_from_yields_List}
use Rattle.rh_expressions.specs.Tokens.{ends_name}
use Rattle.rh_expressions.proofs.TokenLemmas.{before_found}
use Rattle.rh_expressions.proofs.token.name_at.Goals as goal

pub returns : goal.returns
returns c =
    let found = position_from_yields_List ends_name _ _ c.position-end.result c.position-end.ensures.ran (YieldsList-from_slice c.args.text.now cc) (λ x b q k. search (rules, tests)) in
    ap (λ n. take n c.args.text.now) (c.unwrap_or.ensures ∙ ap (λ o. unwrap_or o (length c.args.text.now)) found) ∙ before_found ends_name c.args.text.now
