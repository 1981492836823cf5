use Rattle.std.proofs.Common.{◌∙◌, ap, rules, sym, tests}
use Rattle.std.specs.Prelude.{string_bytes}
use Rattle.std.specs.Str.{bytes_eq}
use Rattle.std.proofs.lemmas.Iterator.{YieldsList-from_slice}
use Rattle.std.proofs.lemmas.Iterator.Search.{position_from_yields_List}
use Rattle.rh_expressions.specs.Tokens.{kind_found}
use Rattle.rh_expressions.proofs.TokenLemmas.{position_map}
use Rattle.rh_expressions.proofs.token.kind_of_name.Goals as goal

pub returns-in-Some : goal.returns-in-Some
returns-in-Some c =
    let name = c.args.name.now in
    let found = position_from_yields_List (λ s. bytes_eq (string_bytes s) name) _ _ c.position.result c.position.ensures.ran (YieldsList-from_slice c.args.names.now cc) (λ x b q k. search (rules, tests)) in
    ap kind_found (sym c.in-Some.is ∙ found ∙ position_map (λ other. bytes_eq other name) string_bytes c.args.names.now)

pub returns-in-None : goal.returns-in-None
returns-in-None c =
    let name = c.args.name.now in
    let found = position_from_yields_List (λ s. bytes_eq (string_bytes s) name) _ _ c.position.result c.position.ensures.ran (YieldsList-from_slice c.args.names.now cc) (λ x b q k. search (rules, tests)) in
    ap kind_found (sym c.in-None.is ∙ found ∙ position_map (λ other. bytes_eq other name) string_bytes c.args.names.now)
