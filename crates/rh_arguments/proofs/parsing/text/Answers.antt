use Rattle.std.proofs.Common.{Some, ap, option_map, sym, ◌∙◌}
use Rattle.std.proofs.lemmas.Result.{IfOk-weaker}
use Rattle.clap.proofs.WalkLemmas.{first_value-rows}
use Rattle.clap.specs.Words.{found_of}
use Rattle.rh_arguments.proofs.ReadLemmas.{some_read}
use Rattle.rh_arguments.proofs.parsing.text.Goals as goal

pub unwrap-requires : goal.unwrap-requires
unwrap-requires c =
    some_read (λ s. s.now) c.get_str.result _ (c.get_str.ensures ∙ first_value-rows (found_of c.args.given.now) c.args.id.now) c.requires

pub returns : goal.returns
returns c =
    IfOk-weaker c.from_str.result _ _
    (λ text same. sym (first_value-rows (found_of c.args.given.now) c.args.id.now) ∙ sym c.get_str.ensures ∙ ap (option_map (λ s. s.now)) c.unwrap.ensures ∙ ap Some (sym same))
    c.from_str.ensures.ok
