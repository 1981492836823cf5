use Rattle.std.proofs.Common.{◌∙◌, rules, tests}
use Rattle.std.specs.Prelude.{string_bytes}
use Rattle.std.specs.Str.{bytes_eq}
use Rattle.std.proofs.lemmas.Iterator.{YieldsList-from_slice}
use Rattle.std.proofs.lemmas.Iterator.Search.{any_from_yields_List}
use Rattle.rh_expressions.proofs.TokenLemmas.{any_map}
use Rattle.rh_expressions.proofs.naming.is_one_of.Goals as goal

pub returns : goal.returns
returns c =
    let name = c.args.name.now in
    let found = any_from_yields_List (λ s. bytes_eq (string_bytes s) name) _ _ c.any.result c.any.ensures.ran (YieldsList-from_slice c.args.names.now cc) (λ x b q k. search (rules, tests)) in
    found ∙ any_map (λ other. bytes_eq other name) string_bytes c.args.names.now
