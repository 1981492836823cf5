use Rattle.std.proofs.Common.{[], ap, unwrap_or, ◌∙◌}
use Rattle.std.proofs.lemmas.Result.{IfOk-weaker}
use Rattle.clap.proofs.WalkLemmas.{raw_values-rows}
use Rattle.clap.specs.Words.{found_of}
use Rattle.rh_arguments.specs.Words.{texts_of}
use Rattle.rh_arguments.proofs.parsing.texts.Goals as goal

pub returns-in-Some : goal.returns-in-Some
returns-in-Some c =
    let all = c.in-Some.ensures ∙ raw_values-rows (found_of c.args.given.now) c.args.id.now in
    IfOk-weaker c.copy_texts.result _ _ (λ copies same. same ∙ ap (λ o. unwrap_or o []) all) c.copy_texts.ensures

pub returns-in-None : goal.returns-in-None
returns-in-None c =
    let all = c.in-None.ensures ∙ raw_values-rows (found_of c.args.given.now) c.args.id.now in
    ap texts_of c.new.ensures.items ∙ ap (λ o. unwrap_or o []) all
